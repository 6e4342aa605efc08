use Rattle.std.proofs.Common.{◌≡◌, ◌+◌, ◌≤◌, length}
use Rattle.fax_mhcode.specs.Pairs.{GoesOn}
use Rattle.fax_mhcode.proofs.pairs.read_pairs.Given as goal

abbrev pub invariant-loop-line : goal.invariant-loop-line
invariant-loop-line l = record {
  goes_on : GoesOn l.fn.reader l.fn.line l.fn.left l.reader l.line l.left;
  left : length l.line + l.left ≡ length l.fn.line + l.fn.left;
  ahead : length l.reader.left ≤ length l.fn.reader.left;
}

abbrev pub decreases-loop-line : goal.decreases-loop-line
decreases-loop-line l = l.left
