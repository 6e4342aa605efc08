use Rattle.std.proofs.Common.{◌≡◌, ◌+◌, length}
use Rattle.fax_runcodes.specs.Rows.{Elements}
use Rattle.fax_runcodes.specs.Widths.{elements_of}
use Rattle.fax_mhcode.specs.Pairs.{RunsSoFar}
use Rattle.fax_mhcode.proofs.passing.pass_line_1d.Given as goal

-- the runs that were passed make some elements, and so many are left
abbrev pub invariant-loop-left : goal.invariant-loop-left
invariant-loop-left l = record {
  row : Elements;
  so_far : RunsSoFar (elements_of l.fn.width) l.fn.reader l.ahead row l.colour;
  left : length row + l.left ≡ elements_of l.fn.width;
}

abbrev pub decreases-loop-left : goal.decreases-loop-left
decreases-loop-left l = length l.ahead.left
