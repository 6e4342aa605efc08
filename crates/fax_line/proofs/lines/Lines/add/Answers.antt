use Rattle.std.proofs.Common.{List, [], sym, subst}
use Rattle.fax_line.specs.Operations.{AreBegun, AreNew, LinesValue}
use Rattle.fax_line.specs.Places.{PlaceValue}
use Rattle.fax_line.proofs.Stepping.{begun_after, new_after}
use Rattle.fax_line.proofs.lines.Lines.add.Goals as goal

pub returns-in_err-push-clause-new : goal.returns-in_err-push-clause-new
returns-in_err-push-clause-new g c are is =
    subst (λ (l : List PlaceValue). AreNew l) (sym c.in_err-push.ensures.items) (subst (λ (v : LinesValue). AreNew v.lines) (sym c.self.view_is) are)

pub returns-in_err-push-clause-begun : goal.returns-in_err-push-clause-begun
returns-in_err-push-clause-begun g c calls are is =
    subst (λ (l : List PlaceValue). AreBegun l) (sym c.in_err-push.ensures.items) (subst (λ (v : LinesValue). AreBegun v.lines) (sym c.self.view_is) are)

pub returns-clause-new : goal.returns-clause-new
returns-clause-new g c are is =
    subst (λ (l : List PlaceValue). AreNew l) (sym c.in_ok-push.ensures.items)
    (new_after c.self.inside.places.items c.in_ok-place.place (subst (λ (v : LinesValue). AreNew v.lines) (sym c.self.view_is) are) (c.in_ok-place.ensures.begins [] is))

pub returns-clause-begun : goal.returns-clause-begun
returns-clause-begun g c calls are is =
    subst (λ (l : List PlaceValue). AreBegun l) (sym c.in_ok-push.ensures.items)
    (begun_after c.self.inside.places.items c.in_ok-place.place (subst (λ (v : LinesValue). AreBegun v.lines) (sym c.self.view_is) are) (calls, c.in_ok-place.ensures.begins calls is))
