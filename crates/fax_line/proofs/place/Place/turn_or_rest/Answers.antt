use Rattle.std.proofs.Common.{◌≡◌, true, false, [], ◌∷◌, ◌∙◌, sym, subst}
use Rattle.fax_line.specs.Actions.{Rests}
use Rattle.fax_line.specs.Places.{GoesInPlace, PlaceValue, is_at_rest}
use Rattle.fax_line.proofs.Places.{place_of, place_rests, visit_rests}
use Rattle.fax_line.proofs.place.Place.turn_or_rest.Goals as goal

pub returns-then-is_at_rest-clause-goes : goal.returns-then-is_at_rest-clause-goes
returns-then-is_at_rest-clause-goes g c =
    let old = c.self.inside in
    let now = c.args.now in
    let new : PlaceValue = place_of old.line.value old.due old.is_awake false old.waits in
    let rests : is_at_rest now c.args.self.now ≡ true = sym c.is_at_rest.ensures ∙ c.if-is_at_rest.true in
    let goes = place_rests now old.line.value old.due old.is_awake old.has_turned false old.waits c.self.invariant (subst (λ (p : PlaceValue). is_at_rest now p ≡ true) (sym c.self.view_is) rests) in
    visit_rests now (is_at_rest now c.args.self.now) c.args.self.now new rests (subst (λ (p : PlaceValue). GoesInPlace (Rests now ∷ []) p new) c.self.view_is goes)
