use Rattle.std.proofs.Common.{◌≡◌, ◌+◌, ◌<◌, ◌≤◌, take, drop, sum, All, vec_len, vec_capacity}
use Rattle.fax_runcodes.proofs.PaintingLemmas.{ends_of}
use Rattle.fax_runcodes.proofs.row.painting.push_ends.Given as goal

-- the runs so far add to less than the width, and where each ends is pushed
abbrev pub invariant-loop-i : goal.invariant-loop-i
invariant-loop-i l = record {
  ends : l.ends.items ≡ ends_of 0 (take l.i l.runs);
  place : l.place ≡ sum (take l.i l.runs);
  less : l.place < l.width;
  filled : All (λ n. 0 < n) (drop 1 (take l.i l.runs));
  few : l.i ≤ l.place + 1;
  count : vec_len l.ends ≡ l.i;
  room : vec_capacity l.initial.ends ≤ vec_capacity l.ends;
}
