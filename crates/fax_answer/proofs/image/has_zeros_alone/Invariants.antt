use Rattle.std.proofs.Common.{ℕ, ◌≡◌, ◌<◌, ◌≤◌, false, get_or}
use Rattle.fax_answer.proofs.image.has_zeros_alone.Given as goal

-- each of those before this place is 0, if no other was found
abbrev pub invariant-loop-place : goal.invariant-loop-place
invariant-loop-place l = (l.first ≤ l.place) × (l.found ≡ false → (i : ℕ) → l.first ≤ i → i < l.place → get_or l.octets i 0 ≡ 0)
