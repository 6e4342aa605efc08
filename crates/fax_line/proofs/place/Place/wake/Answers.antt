use Rattle.std.proofs.Common.{true, [], ◌∷◌, subst}
use Rattle.fax_line.specs.Actions.{Wakes}
use Rattle.fax_line.specs.Places.{GoesInPlace, PlaceValue}
use Rattle.fax_line.proofs.Places.{place_of, place_wakes}
use Rattle.fax_line.proofs.place.Place.wake.Goals as goal

pub returns-clause-goes : goal.returns-clause-goes
returns-clause-goes g c =
    let old = c.self.inside in
    subst (λ (p : PlaceValue). GoesInPlace (Wakes ∷ []) p (place_of old.line.value old.due true old.has_turned old.waits)) c.self.view_is
    (place_wakes old.line.value old.due old.is_awake old.has_turned old.waits)
