-- What sockets brought, as an end tells it.
use Rattle.std.proofs.Common.{◌≡◌, ℕ, List, [], ◌∷◌, ◌++◌, Option, Some, None, option_map, Result, Ok, refl, ◌∙◌, ap, subst}
use Rattle.fax_gateway.specs.Wires.{Grows}
use Rattle.fax_terminal.specs.Ends.{brought}
use Rattle.fax_loop.specs.Traffic.{Brought, brought_by, octets_brought}

both_octets : (newer older : List Brought) → octets_brought (newer ++ older) ≡ octets_brought newer ++ octets_brought older
both_octets [] older = refl
both_octets (b ∷ newer) older = ap (λ (xs : List (List ℕ)). b.octets ∷ xs) (both_octets newer older)

grows_octets : (newer : List Brought) (before after : Option (List Brought)) → Grows newer before after → Grows (octets_brought newer) (option_map octets_brought before) (option_map octets_brought after)
grows_octets newer before None g = tt
grows_octets newer before (Some told) g = (octets_brought g.0, ap (option_map octets_brought) g.1, ap octets_brought g.2 ∙ both_octets newer g.0)

octets_by : (E : Type 0) (buffer : List ℕ) (came : Option ℕ) → octets_brought (brought_by {E = E} buffer (Ok came)) ≡ brought buffer came
octets_by E buffer None = refl
octets_by E buffer (Some count) = refl

pub end_receives : {E : Type 0} (buffer : List ℕ) (result : Result (Option ℕ) E) (came : Option ℕ) (before after : Option (List Brought)) → result ≡ Ok came → Grows (brought_by buffer result) before after
    → Grows (brought buffer came) (option_map octets_brought before) (option_map octets_brought after)
end_receives {E} buffer result came before after is g =
    subst (λ (newer : List (List ℕ)). Grows newer (option_map octets_brought before) (option_map octets_brought after))
    (ap (λ (r : Result (Option ℕ) E). octets_brought (brought_by buffer r)) is ∙ octets_by E buffer came) (grows_octets (brought_by buffer result) before after g)
