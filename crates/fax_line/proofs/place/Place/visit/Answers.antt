use Rattle.std.proofs.Common.{◌≡◌, ◌∙◌, ℕ, Bool, true, false, sym, ap, subst}
use Rattle.fax_line.specs.Places.{GoesInPlace, PlaceValue, actions_by, is_at_rest, visit_at}
use Rattle.fax_line.proofs.Places.{place_none}
use Rattle.fax_line.proofs.place.Place.visit.Goals as goal

-- one that waits is passed over
passed_over : (place : PlaceValue) (rests : Bool) (now : ℕ) → place.waits ≡ true → GoesInPlace (actions_by (visit_at true place.waits rests now)) place place
passed_over place rests now waits = subst (λ (w : Bool). GoesInPlace (actions_by (visit_at true w rests now)) place place) (sym waits) (place_none place)

pub returns-else-not-self-clause-goes : goal.returns-else-not-self-clause-goes
returns-else-not-self-clause-goes g c =
    passed_over c.args.self.now (is_at_rest c.args.now c.args.self.now) c.args.now
    (ap (λ (p : PlaceValue). p.waits) (sym c.self.view_is) ∙ c.if-not-self.false)
