use Rattle.std.proofs.Common.{ℕ, ◌≡◌, ◌<◌, ◌≤◌, false, get_or}
use Rattle.fax_pagestore.proofs.reader.fill.block_has_no_zeros.Given as goal

-- none of those before this place is 0, if none was found
abbrev pub invariant-loop-place : goal.invariant-loop-place
invariant-loop-place l = (l.first ≤ l.place) × (l.found ≡ false → (i : ℕ) → l.first ≤ i → i < l.place → 0 < get_or l.octets i 0)
