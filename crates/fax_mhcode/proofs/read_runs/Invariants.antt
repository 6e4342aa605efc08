use Rattle.std.proofs.Common.{◌≡◌, ◌+◌, length}
use Rattle.fax_runcodes.specs.declared.Colour.TheVariants.{White}
use Rattle.fax_mhcode.specs.Pairs.{RunsSoFar}
use Rattle.fax_mhcode.proofs.read_runs.Given as goal

abbrev pub invariant-loop-left : goal.invariant-loop-left
invariant-loop-left l = record {
  so_far : RunsSoFar l.width l.fn.reader l.reader l.line White;
  left : length l.line + l.left ≡ l.width;
}

abbrev pub decreases-loop-left : goal.decreases-loop-left
decreases-loop-left l = length l.reader.left
