use Rattle.std.proofs.Common.{ℕ, ◌≡◌, ◌≤◌, get_or, length}
use Rattle.fax_pagestore.proofs.ends.before_zeros.Given as goal

-- from here on all are 0
abbrev pub invariant-loop-place : goal.invariant-loop-place
invariant-loop-place l = (l.from ≤ l.place) × (l.place ≤ length l.octets) × ((i : ℕ) → l.place ≤ i → get_or l.octets i 0 ≡ 0)
