use Rattle.std.proofs.Common.{◌+◌, ◌*◌, ◌≤◌, length}
use Rattle.fax_runcodes.specs.declared.Colour.TheVariants.{White}
use Rattle.fax_runcodes.specs.Painted.{AreRising, painted}
use Rattle.fax_runcodes.proofs.RunsOfRow.{runs_between}
use Rattle.fax_mhcode.proofs.WriteLemmas.{RunsWritten}
use Rattle.fax_mhcode.proofs.writing.put_runs.Given as goal

abbrev pub invariant-loop-rest : goal.invariant-loop-rest
invariant-loop-rest l = record {
  rising : AreRising l.from l.rest l.width;
  written : RunsWritten (painted White 0 l.changes l.width) l.fn.writer.bits l.writer.bits White (runs_between l.from l.rest l.width);
  room : 29 * (length l.rest + 1) ≤ l.writer.room;
}

abbrev pub decreases-loop-rest : goal.decreases-loop-rest
decreases-loop-rest l = length l.rest
