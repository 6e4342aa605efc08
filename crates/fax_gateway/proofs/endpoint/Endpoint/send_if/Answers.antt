use Rattle.std.proofs.Common.{◌≡◌, ℕ, List, ◌∷◌, Option, Some, sym, ap, subst}
use Rattle.fax_gateway.specs.Legs.{sent}
use Rattle.fax_gateway.specs.Reached.{IsLeg, sent_if, given_with}
use Rattle.fax_gateway.proofs.endpoint.Endpoint.send_if.Goals as goal

pub returns-in-Some : goal.returns-in-Some
returns-in-Some c = λ setup arrived given r.
    let s = c.send.ensures setup arrived given r in
    let told : List ℕ = c.send.result in
    let new = c.send.new.self in
    subst (λ (p : Option (List ℕ)). (◌≡◌ {A = Option (List ℕ)} (Some told) (sent_if setup given p)) × IsLeg setup arrived (given_with p given) new) (sym c.in-Some.is)
    (subst (λ (q : List ℕ). (◌≡◌ {A = Option (List ℕ)} (Some told) (Some (sent setup given q))) × IsLeg setup arrived (q ∷ given) new) c.as_slice.ensures (ap Some s.0, s.1))
