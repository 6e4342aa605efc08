use Rattle.std.proofs.Common.{◌≡◌, length, All, None}
use Rattle.fax_http.proofs.visitors.visitors.Visitors.listen.Given as goal

-- so many places so far, and nobody there
abbrev pub invariant-loop : goal.invariant-loop
invariant-loop g l = (length l.places.items ≡ l.counter) × All (λ there. there ≡ None) l.places.items
