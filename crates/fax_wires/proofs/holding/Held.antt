-- What goes out of a line whose pages are stored.
use Rattle.std.specs.declared.alloc.Global.{Global}
use Rattle.std.proofs.Common.{◌≡◌, ℕ, Vec, Bool, true, false, not, ◌||◌, List, [], ◌∷◌, ◌++◌, Option, Some, None, refl, sym, ◌∙◌, ap, subst, if◌then◌else◌}
use Rattle.fax_gateway.specs.Wires.{Grows, HandedDatagram, KnownWire}
use Rattle.fax_gateway.specs.declared.leg.Leg.TheVariants as legs
use Rattle.fax_wires.specs.repeat.Peers.{Peers}
use Rattle.fax_wires.specs.repeat.Policies.{IsToldAs}
use Rattle.fax_gateway.specs.declared.leg.Leg.{Leg}
use Rattle.fax_gateway.specs.Events.{Ring, FromCalling, FromCalled, Tick, Placed}
use Rattle.fax_gateway.specs.Driving.{Entry, Accepts, FailsToReceive, GoesBy, ReceivesNothing, RefusesDatagram, RefusesRing, RefusesTick, Sends, WireGoes}
use Rattle.fax_wires.specs.holding.Holding.{Ceases, HandsOn, HoldingValue, Holds, Loses, Releases, Speaks, Stays, fresh, octets_of, what_is_held}
use Rattle.fax_wires.specs.holding.Holding as holding
use Rattle.fax_wires.specs.holding.Storing.{BeginsNone, HasDone, HasSent, HoldsAfter, HoldsByLog, LegAction, LogsAreHeld, failed, handed_by, handed_last, is_calling, on_calling, silenced_after, went_out, with_given}
use Rattle.fax_wires.specs.holding.Storing.{Turn, Begins}

or_true : (b : Bool) → (b || true) ≡ true
or_true b = elim b as (λ (c : Bool). (c || true) ≡ true) [ true ↦ refl | false ↦ refl ]

still_silenced : (later earlier : List LegAction) (given : Option (List ℕ)) → BeginsNone later → silenced_after (later ++ Turn given true false ∷ earlier) ≡ true
still_silenced [] earlier given none = or_true (silenced_after earlier)
still_silenced (Begins ∷ later) earlier given none = absurd none
still_silenced (Turn other confirms is_stored ∷ later) earlier given none = ap (λ (b : Bool). b || failed confirms is_stored) (still_silenced later earlier given none)

-- nothing goes out while the leg is silenced
pub silenced_until : (later earlier : List LegAction) (given : Option (List ℕ)) → BeginsNone later → went_out (later ++ Turn given true false ∷ earlier) ≡ went_out earlier
silenced_until [] earlier given none = ap (λ (b : Bool). if b then went_out earlier else with_given given (went_out earlier)) (or_true (silenced_after earlier))
silenced_until (Begins ∷ later) earlier given none = absurd none
silenced_until (Turn other confirms is_stored ∷ later) earlier given none =
    let before = later ++ Turn given true false ∷ earlier in
    ap (λ (b : Bool). if b || failed confirms is_stored then went_out before else with_given other (went_out before)) (still_silenced later earlier given none)
    ∙ silenced_until later earlier given none

on_calling-append : (newer older : List HandedDatagram) → on_calling (newer ++ older) ≡ on_calling newer ++ on_calling older
on_calling-append [] older = refl
on_calling-append (h ∷ newer) older =
    elim (is_calling h.leg) as (λ (b : Bool). (if b then h.octets ∷ on_calling (newer ++ older) else on_calling (newer ++ older)) ≡ (if b then h.octets ∷ on_calling newer else on_calling newer) ++ on_calling older) [
      | true ↦ ap (λ (l : List (List ℕ)). h.octets ∷ l) (on_calling-append newer older)
      | false ↦ on_calling-append newer older
    ]

abbrev told_or_none : Option (List HandedDatagram) → List HandedDatagram
told_or_none None = []
told_or_none (Some told) = told

-- what a wire was handed grows
sent_more : (newer : List HandedDatagram) (out : List (List ℕ)) (before after : Option (List HandedDatagram)) → Grows newer before after → HasSent out before → HasSent (on_calling newer ++ out) after
sent_more newer out before None grows was = λ sent same. absurd (cc same)
sent_more newer out before (Some told) grows was = λ sent same.
    let is : told ≡ sent = ap told_or_none same in
    ap on_calling (sym is ∙ grows.2) ∙ on_calling-append newer grows.0 ∙ ap (λ (l : List (List ℕ)). on_calling newer ++ l) (was grows.0 grows.1)

abbrev no_octets : Option (List ℕ)
no_octets = None

none_either : (b : Bool) → (if b then no_octets else no_octets) ≡ no_octets
none_either b = elim b as (λ (c : Bool). (if c then no_octets else no_octets) ≡ no_octets) [ true ↦ refl | false ↦ refl ]

pub holds_nothing : (actions : List LegAction) (wire : HoldingValue) → HasDone actions wire → HoldsAfter actions None wire
holds_nothing actions wire done = record { held = done.held ∙ sym (none_either (silenced_after actions)); is_silenced = done.is_silenced; out = done.out }

pub holds_given : (actions : List LegAction) (octets : List ℕ) (old new : HoldingValue) → HasDone actions old → Holds octets old new → HoldsAfter actions (Some octets) new
holds_given actions octets old new done holds = record {
  held = holds.held ∙ ap (λ (o : Option (List ℕ)). if old.is_silenced then o else Some octets) done.held ∙ ap (λ (b : Bool). if b then None else Some octets) done.is_silenced;
  is_silenced = holds.is_silenced ∙ done.is_silenced;
  out = subst (λ (w : KnownWire). HasSent (went_out actions) w.sent) (sym holds.wire) done.out;
}

pub holds_lost : (actions : List LegAction) (old new : HoldingValue) → HasDone actions old → Loses old new → HoldsAfter actions None new
holds_lost actions old new done loses = record {
  held = loses.held ∙ sym (none_either (silenced_after actions));
  is_silenced = loses.is_silenced ∙ done.is_silenced;
  out = subst (λ (w : KnownWire). HasSent (went_out actions) w.sent) (sym loses.wire) done.out;
}

pub holds_beside : (actions : List LegAction) (given : Option (List ℕ)) (octets : List ℕ) (old new : HoldingValue) → HoldsAfter actions given old → HandsOn octets old new → HoldsAfter actions given new
holds_beside actions given octets old new h hands = record {
  held = hands.held ∙ h.held;
  is_silenced = hands.is_silenced ∙ h.is_silenced;
  out = sent_more (record { leg = legs.Called; octets = octets } ∷ []) (went_out actions) old.wire.sent new.wire.sent hands.sent h.out;
}

-- ---- over a log

pub holds_still : (actions : List LegAction) (given : Option (List ℕ)) (old new : HoldingValue) → HoldsAfter actions given old → Stays old new → HoldsAfter actions given new
holds_still actions given old new h stays = record {
  held = stays.held ∙ h.held;
  is_silenced = stays.is_silenced ∙ h.is_silenced;
  out = sent_more [] (went_out actions) old.wire.sent new.wire.sent stays.sent h.out;
}

pub done_still : (actions : List LegAction) (old new : HoldingValue) → HasDone actions old → Stays old new → HasDone actions new
done_still actions old new done stays = record {
  held = stays.held ∙ done.held;
  is_silenced = stays.is_silenced ∙ done.is_silenced;
  out = sent_more [] (went_out actions) old.wire.sent new.wire.sent stays.sent done.out;
}

-- a silenced leg holds nothing, whatever it is handed
silenced_holds : (silence : Bool) (held given new : Option (List ℕ)) (octets : List ℕ) → held ≡ (if silence then None else given) → new ≡ (if silence then held else Some octets) → new ≡ (if silence then None else Some octets)
silenced_holds true held given new octets was is = is ∙ was
silenced_holds false held given new octets was is = is

-- it is handed one more datagram on the calling leg
holds_next : (actions : List LegAction) (given : Option (List ℕ)) (octets : List ℕ) (old new : HoldingValue) → HoldsAfter actions given old → Holds octets old new → HoldsAfter actions (Some octets) new
holds_next actions given octets old new h holds = record {
  held = silenced_holds (silenced_after actions) old.held given new.held octets h.held (holds.held ∙ ap (λ (b : Bool). if b then old.held else Some octets) h.is_silenced);
  is_silenced = holds.is_silenced ∙ h.is_silenced;
  out = subst (λ (w : KnownWire). HasSent (went_out actions) w.sent) (sym holds.wire) h.out;
}

loses_next : (actions : List LegAction) (given : Option (List ℕ)) (old new : HoldingValue) → HoldsAfter actions given old → Loses old new → HoldsAfter actions None new
loses_next actions given old new h loses = record {
  held = loses.held ∙ sym (none_either (silenced_after actions));
  is_silenced = loses.is_silenced ∙ h.is_silenced;
  out = subst (λ (w : KnownWire). HasSent (went_out actions) w.sent) (sym loses.wire) h.out;
}

sends_after : (actions : List LegAction) (given : Option (List ℕ)) (at : Leg) (octets : List ℕ) (fails : Bool) (old new : HoldingValue) → holding.Sends at octets (not fails) old new → HoldsAfter actions given old
    → HoldsAfter actions (handed_last at octets fails given) new
sends_after actions given legs.Calling octets true old new sends h = loses_next actions given old new h sends
sends_after actions given legs.Calling octets false old new sends h = holds_next actions given octets old new h sends
sends_after actions given legs.Called octets fails old new sends h = holds_beside actions given octets old new h sends

same_after : (actions : List LegAction) (given : Option (List ℕ)) (old new : HoldingValue) → new ≡ old → HoldsAfter actions given old → HoldsAfter actions given new
same_after actions given old new is h = subst (λ (w : HoldingValue). HoldsAfter actions given w) (sym is) h

abbrev GoesOn : Entry → HoldingValue → HoldingValue → Type 0
GoesOn entry old new = GoesBy (λ at. Stays) holding.Sends entry old new

held_on : (actions : List LegAction) (entry : Entry) (earlier : List Entry) (old new : HoldingValue) → GoesOn entry old new → HoldsAfter actions (handed_by earlier) old
    → HoldsAfter actions (handed_by (entry ∷ earlier)) new
held_on actions (Accepts (Ring now number)) earlier old new goes h = same_after actions (handed_by earlier) old new goes h
held_on actions (Accepts (FromCalling octets now decided read)) earlier old new goes h = holds_still actions (handed_by earlier) old new h goes
held_on actions (Accepts (FromCalled octets now decided)) earlier old new goes h = holds_still actions (handed_by earlier) old new h goes
held_on actions (Accepts (Tick now given)) earlier old new goes h = same_after actions (handed_by earlier) old new goes h
held_on actions (Accepts (Placed now connected)) earlier old new goes h = same_after actions (handed_by earlier) old new goes h
held_on actions (RefusesRing fault) earlier old new goes h = same_after actions (handed_by earlier) old new goes h
held_on actions (RefusesDatagram at octets) earlier old new goes h = holds_still actions (handed_by earlier) old new h goes
held_on actions (RefusesTick now) earlier old new goes h = same_after actions (handed_by earlier) old new goes h
held_on actions (ReceivesNothing at) earlier old new goes h = holds_still actions (handed_by earlier) old new h goes
held_on actions (FailsToReceive at) earlier old new goes h = holds_still actions (handed_by earlier) old new h goes
held_on actions (Sends at octets fails) earlier old new goes h = sends_after actions (handed_by earlier) at octets fails old new goes h

held_over : (log : List Entry) (actions : List LegAction) (old new : HoldingValue) → WireGoes (λ at. Stays) holding.Sends log old new → HasDone actions old → HoldsAfter actions (handed_by log) new
held_over [] actions old new goes done = same_after actions None old new goes (holds_nothing actions old done)
held_over (entry ∷ earlier) actions old new goes done = held_on actions entry earlier goes.0 new goes.2 (held_over earlier actions old goes.0 goes.1 done)

pub logs_are_held : LogsAreHeld
logs_are_held log old new goes = λ actions done. held_over log actions old new goes done

-- and so where time goes on before it
pub held_later : (log : List Entry) (old mid new : HoldingValue) → Stays old mid → HoldsByLog log mid new → HoldsByLog log old new
held_later log old mid new stays holds actions done = holds actions (done_still actions old mid done stays)

-- ---- what stays

-- a wire that is handed nothing
pub handed_none : {A : Type 0} (told : Option (List A)) → Grows [] told told
handed_none None = tt
handed_none (Some told) = (told, refl, refl)

pub stays_same : (held : HoldingValue) → Stays held held
stays_same held = record { held = refl; is_silenced = refl; sent = handed_none held.wire.sent }

pub grows_none_on : {A : Type 0} (a b c : Option (List A)) → Grows [] a b → Grows [] b c → Grows [] a c
grows_none_on a b None first second = tt
grows_none_on {A = A} a b (Some told) first second =
    let g : Grows {A = A} [] a (Some second.0) = subst (λ (x : Option (List A)). Grows [] a x) second.1 first in
    (g.0, g.1, second.2 ∙ g.2)

pub stays_more : (old mid new : HoldingValue) → Stays old mid → Stays mid new → Stays old new
stays_more old mid new first second = record {
  held = second.held ∙ first.held;
  is_silenced = second.is_silenced ∙ first.is_silenced;
  sent = grows_none_on old.wire.sent mid.wire.sent new.wire.sent first.sent second.sent;
}

pub begins : (actions : List LegAction) (old new : HoldingValue) → HasDone actions old → Speaks legs.Calling old new → IsToldAs old.wire new.wire → HasDone (Begins ∷ actions) new
begins actions old new done speaks told = record {
  held = speaks.0;
  is_silenced = speaks.1;
  out = sent_more [] (went_out actions) old.wire.sent new.wire.sent told.sent done.out;
}

-- over a wire that tells nothing of what it was handed, it has done nothing at first
pub fresh_did_nothing : (known : KnownWire) (clock : ℕ) (calling_due called_due : Option ℕ) (peers : Peers) → known.sent ≡ None → HasDone [] (fresh known clock calling_due called_due peers)
fresh_did_nothing known clock calling_due called_due peers none = record { held = refl; is_silenced = refl; out = λ sent told. absurd (none_told sent (sym none ∙ told)) }
  where
    none_told : (sent : List HandedDatagram) → None ≡ Some sent → ⊥
    none_told sent told = cc

-- where a call begins on the calling leg
pub begins_ceased : (actions : List LegAction) (old new : HoldingValue) → Ceases legs.Calling old new → HasDone actions old → HasDone (Begins ∷ actions) new
begins_ceased actions old new ceases done = record {
  held = ceases.speaks.0;
  is_silenced = ceases.speaks.1;
  out = sent_more [] (went_out actions) old.wire.sent new.wire.sent ceases.sent done.out;
}

-- where one begins on the called leg what is held stays
pub ceases_beside : (old new : HoldingValue) → Ceases legs.Called old new → Stays old new
ceases_beside old new ceases = record { held = ceases.speaks.0; is_silenced = ceases.speaks.1; sent = ceases.sent }

or_none : (b : Bool) → (b || false) ≡ b
or_none true = refl
or_none false = refl

same_out : (b : Bool) (out : List (List ℕ)) → (if b then out else out) ≡ out
same_out true out = refl
same_out false out = refl

-- a turn in which nothing was handed over, and no page confirmed, is none
pub no_turn : (actions : List LegAction) (is_stored : Bool) (wire : HoldingValue) → HasDone (Turn None false is_stored ∷ actions) wire → HasDone actions wire
no_turn actions is_stored wire done = record {
  held = done.held;
  is_silenced = done.is_silenced ∙ or_none (silenced_after actions);
  out = λ sent told. done.out sent told ∙ same_out (silenced_after actions || false) (went_out actions);
}

-- a release of nothing
pub nothing_released : (held : Option (Vec ℕ Global)) (old new : HoldingValue) → held ≡ None → old.held ≡ octets_of held → new.held ≡ None → new.is_silenced ≡ old.is_silenced → new.wire ≡ old.wire → new.peers ≡ old.peers → Releases old new
nothing_released held old new none is gone silence wire peers = record {
  held = gone;
  is_silenced = silence;
  peers = peers;
  received = subst (λ (w : KnownWire). Grows [] old.wire.received w.received) (sym wire) (handed_none old.wire.received);
  sent = subst (λ (o : Option (List ℕ)). Grows (what_is_held o) old.wire.sent new.wire.sent) (sym (is ∙ ap octets_of none))
      (subst (λ (w : KnownWire). Grows [] old.wire.sent w.sent) (sym wire) (handed_none old.wire.sent));
}
