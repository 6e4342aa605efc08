use Rattle.std.proofs.Common.{◌≡◌, Bool, true, false, ◌∷◌, [], Option, Some, None, nat_eq, refl, slice_index_or, sym, subst}
use Rattle.std.proofs.lemmas.Bool.{eq-eqb, ne_eqb}
use Rattle.std.proofs.lemmas.List.{get_or_default}
use Rattle.fax_wires.proofs.holding.Held.{stays_same}
use Rattle.fax_line.specs.declared.asked.LineAnswer.{LineAnswer}
use Rattle.fax_line.specs.declared.asked.LineRequest.{LineRequest}
use Rattle.fax_line.specs.Actions.{Asks}
use Rattle.fax_line.specs.Operations.{IsFreed}
use Rattle.fax_line.specs.Places.{GoesInPlace, PlaceValue}
use Rattle.fax_line.proofs.Stepping.{none_goes, one_goes}
use Rattle.fax_line.proofs.Heard.{after_none}
use Rattle.fax_line.proofs.Turning.{all_come, one_comes}
use Rattle.fax_line.proofs.lines.ask_one.Goals as goal

pub returns-then-i-places-clause-went : goal.returns-then-i-places-clause-went
returns-then-i-places-clause-went g c = none_goes (λ i. Asks c.args.now c.args.what None ∷ []) c.args.i c.args.places.now c.if-i-places.true

pub returns-clause-went : goal.returns-clause-went
returns-clause-went g c =
    one_goes (λ i. Asks c.args.now c.args.what (Some c.ask.result) ∷ []) c.args.i c.args.places.now c.ask.new.self c.if-i-places.false
    (λ d. subst (λ (l : PlaceValue). GoesInPlace (Asks c.args.now c.args.what (Some c.ask.result) ∷ []) l c.ask.new.self) (get_or_default c.args.places.now c.args.i c.index-places-i.result d c.if-i-places.false) c.ask.ensures.goes)

-- no line is freed where there is none of which to ask it, and no other one where there is
none_freed : (b : Bool) (what : LineRequest) (place : PlaceValue) → IsFreed b what None place place
none_freed true what place = (stays_same place.line.holding, sym (after_none what place.line.peers))
none_freed false what place = refl

other_freed : (b : Bool) (what : LineRequest) (answer : Option LineAnswer) (place : PlaceValue) → b ≡ false → IsFreed b what answer place place
other_freed true what answer place is = absurd (cc)
other_freed false what answer place is = refl

pub returns-then-i-places-clause-frees : goal.returns-then-i-places-clause-frees
returns-then-i-places-clause-frees g c = all_come (λ number. IsFreed (nat_eq number c.args.i) c.args.what None) c.args.places.now (λ number place. none_freed (nat_eq number c.args.i) c.args.what place)

pub returns-clause-frees : goal.returns-clause-frees
returns-clause-frees g c =
    one_comes (λ number. IsFreed (nat_eq number c.args.i) c.args.what (Some c.ask.result)) c.args.i c.args.places.now c.ask.new.self c.if-i-places.false
    (λ d. subst (λ (b : Bool). IsFreed b c.args.what (Some c.ask.result) (slice_index_or c.args.places.now c.args.i d) c.ask.new.self) (sym (eq-eqb c.args.i c.args.i refl))
    (subst (λ (l : PlaceValue). IsFreed true c.args.what (Some c.ask.result) l c.ask.new.self) (get_or_default c.args.places.now c.args.i c.index-places-i.result d c.if-i-places.false) (c.ask.ensures.frees, c.ask.ensures.peers)))
    (λ number place other. other_freed (nat_eq number c.args.i) c.args.what (Some c.ask.result) place (ne_eqb number c.args.i other))

pub returns-then-i-places-clause-waits : goal.returns-then-i-places-clause-waits
returns-then-i-places-clause-waits g c = all_come (λ number before after. after.waits ≡ before.waits) c.args.places.now (λ number place. refl)

pub returns-then-i-places-clause-awake : goal.returns-then-i-places-clause-awake
returns-then-i-places-clause-awake g c = all_come (λ number before after. after.awake ≡ before.awake) c.args.places.now (λ number place. refl)

pub returns-clause-awake : goal.returns-clause-awake
returns-clause-awake g c =
    one_comes (λ number before after. after.awake ≡ before.awake) c.args.i c.args.places.now c.ask.new.self c.if-i-places.false
    (λ d. subst (λ (l : PlaceValue). c.ask.new.self.awake ≡ l.awake) (get_or_default c.args.places.now c.args.i c.index-places-i.result d c.if-i-places.false) c.ask.ensures.awake)
    (λ number place other. refl)

pub returns-clause-waits : goal.returns-clause-waits
returns-clause-waits g c =
    one_comes (λ number before after. after.waits ≡ before.waits) c.args.i c.args.places.now c.ask.new.self c.if-i-places.false
    (λ d. subst (λ (l : PlaceValue). c.ask.new.self.waits ≡ l.waits) (get_or_default c.args.places.now c.args.i c.index-places-i.result d c.if-i-places.false) c.ask.ensures.waits)
    (λ number place other. refl)
