use Rattle.std.proofs.Common.{◌-◌, ℕ, ◌≡◌, ◌+◌, ◌%◌, ◌<◌, ◌≤◌, length, slice_index}
use Rattle.fax_mrcode.proofs.writing.alike.places_alike.Given as goal

abbrev pub invariant-loop-count : goal.invariant-loop-count
invariant-loop-count l = record {
  fours : l.count % 4 ≡ 0;
  few : l.count ≤ 28;
  inside : 0 < l.count → l.index + l.count ≤ length l.changes;
  inside_above : 0 < l.count → l.over + l.count ≤ length l.above;
  alike : (k : ℕ) → k < l.count → slice_index l.changes (l.index + k) ≡ slice_index l.above (l.over + k);
}

abbrev pub decreases-loop-count : goal.decreases-loop-count
decreases-loop-count l = 28 - l.count
