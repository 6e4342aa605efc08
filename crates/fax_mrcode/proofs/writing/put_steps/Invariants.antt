use Rattle.std.proofs.Common.{◌+◌, ◌-◌, ◌*◌, ◌≤◌}
use Rattle.fax_runcodes.specs.Painted.{colour_after_changes}
use Rattle.fax_mrcode.proofs.WriteLemmas.{StepsSoFar}
use Rattle.fax_mrcode.proofs.writing.put_steps.Given as goal

abbrev pub invariant-loop-from : goal.invariant-loop-from
invariant-loop-from l = record {
  so_far : StepsSoFar l.reference l.row l.changes l.above l.fn.writer.bits l.writer.bits l.from (colour_after_changes l.index) l.index l.index_above;
  room : 57 * (l.width + 1 - l.from) ≤ l.writer.room;
}

abbrev pub decreases-loop-from : goal.decreases-loop-from
decreases-loop-from l = l.width + 1 - l.from
