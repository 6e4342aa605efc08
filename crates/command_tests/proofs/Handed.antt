-- What was handed over on the called leg.
use Rattle.std.proofs.Common.{◌≡◌, ℕ, zero, suc, ◌≤◌, List, [], ◌∷◌, length, slice_get, Some, refl, sym, ◌∙◌, ap, subst, arith}
use Rattle.std.specs.Prelude.{Contains}
use Rattle.std.proofs.lemmas.List.Elements.{Contains-append_left, Contains-append_right}
use Rattle.fax_gateway.specs.declared.leg.Leg.{Leg}
use Rattle.fax_gateway.specs.declared.leg.Leg.TheVariants as legs
use Rattle.fax_gateway.specs.Wires.{HandedDatagram}
use Rattle.fax_loop.specs.Links.{handed_called, on_called}

has_first : (octets : List ℕ) (rest : List (List ℕ)) → Contains (octets ∷ rest) octets
has_first octets rest = Contains-append_left (octets ∷ []) rest octets (0, omega arith, refl)

has_rest : (at : Leg) (first : List ℕ) (rest : List (List ℕ)) (octets : List ℕ) → Contains rest octets → Contains (on_called at first rest) octets
has_rest legs.Calling first rest octets c = c
has_rest legs.Called first rest octets c = Contains-append_right (first ∷ []) rest octets c

-- one that was, at a place
pub has : (hs : List HandedDatagram) (i : ℕ) (h : HandedDatagram) (octets : List ℕ) → slice_get hs i ≡ Some h → h.leg ≡ legs.Called → h.octets ≡ octets → Contains (handed_called hs) octets
has [] i h octets found at is = cc
has (x ∷ hs) zero h octets found at is =
    let same : x ≡ h = cc in
    let all : handed_called (x ∷ hs) ≡ octets ∷ handed_called hs =
    ap (λ (y : HandedDatagram). on_called y.leg y.octets (handed_called hs)) same ∙ ap (λ (s : Leg). on_called s h.octets (handed_called hs)) at ∙ ap (λ (o : List ℕ). o ∷ handed_called hs) is in
    subst (λ (xs : List (List ℕ)). Contains xs octets) (sym all) (has_first octets (handed_called hs))
has (x ∷ hs) (suc i) h octets found at is = has_rest x.leg x.octets (handed_called hs) octets (has hs i h octets found at is)

few_on : (at : Leg) (octets : List ℕ) (rest : List (List ℕ)) (n : ℕ) → length rest ≤ n → length (on_called at octets rest) ≤ suc n
few_on legs.Calling octets rest n h = omega arith
few_on legs.Called octets rest n h = omega arith

-- no more than were handed over
pub few : (hs : List HandedDatagram) → length (handed_called hs) ≤ length hs
few [] = omega arith
few (h ∷ hs) = few_on h.leg h.octets (handed_called hs) (length hs) (few hs)
