use Rattle.std.proofs.Common.{◌≡◌, ◌<◌, take, drop, sum, All}
use Rattle.fax_c.proofs.writing.row_in_front.Given as goal

-- the runs so far add to less than the width, and none of them but the first is empty
abbrev pub invariant-loop-i : goal.invariant-loop-i
invariant-loop-i l = record {
  place : l.place ≡ sum (take l.i l.runs);
  less : l.place < l.elements;
  filled : All (λ n. 0 < n) (drop 1 (take l.i l.runs));
}
