use Rattle.std.proofs.Common.{◌≡◌, ◌≤◌, ◌-◌, length, take}
use Rattle.fax_pagestore.specs.Fill.{less_fill, zeros_after}
use Rattle.fax_pagestore.proofs.reader.fill.kept_front.Given as goal

abbrev pub decreases-loop-place : goal.decreases-loop-place
decreases-loop-place l = length l.octets - l.place

-- those so far are kept
abbrev pub invariant-loop-place : goal.invariant-loop-place
invariant-loop-place l = record {
  within : l.place ≤ length l.octets;
  kept : less_fill l.zeros (take l.place l.octets) ≡ take l.place l.octets;
  count : l.count ≡ zeros_after l.zeros (take l.place l.octets);
}
