use Rattle.std.proofs.Common.{ℕ, ◌≡◌, ◌<◌, ◌≤◌, ◌+◌, false, get_or}
use Rattle.fax_pagestore.specs.Ends.{CountsNot}
use Rattle.fax_pagestore.proofs.ends.block_is_clear.Given as goal

-- none of those before this place counts, if none was found
abbrev pub invariant-loop-place : goal.invariant-loop-place
invariant-loop-place l = (l.first ≤ l.place) × (l.found ≡ false → (i : ℕ) → l.first ≤ i → i < l.place → CountsNot (get_or l.octets i 0) (get_or l.octets (i + 1) 0))
