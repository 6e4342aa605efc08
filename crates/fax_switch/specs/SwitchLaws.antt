-- SIP serves the right call, whatever happens at whatever moments.
use Rattle.std.specs.Prelude.{◌≡◌, ℕ, ◌+◌, ◌≤◌, ◌==◌, Bool, true, false, List, ◌∷◌, ◌++◌, ◌⊎◌, Option, None, Some}
use Rattle.fax_switch.specs.declared.action.LineAction.{LineAction}
use Rattle.fax_switch.specs.declared.action.LineAction.TheVariants.{NoWord, RingAny, Peer, AudioOn, AudioOff, RefuseCall, HangUpLeg}
use Rattle.fax_switch.specs.declared.action.SipAction.{SipAction}
use Rattle.fax_switch.specs.declared.action.SipAction.TheVariants.{SendOffer, Accept}
use Rattle.fax_switch.specs.declared.call.Entry.{Entry}
use Rattle.fax_switch.specs.declared.event.Event.{Event}
use Rattle.fax_switch.specs.declared.event.Event.TheVariants.{Elapsed, Came, Rung, NotRung, Dialled, CallOver, JobOver, Within}
use Rattle.fax_switch.specs.declared.media.FaxEnd.{FaxEnd}
use Rattle.fax_switch.specs.declared.place.Leg.{Leg}
use Rattle.fax_switch.specs.declared.place.Leg.TheVariants.{Calling, Called}
use Rattle.fax_switch.specs.declared.place.Place.{Place}
use Rattle.fax_switch.specs.Entries.{Each, EachTwo}
use Rattle.fax_switch.specs.Histories.{AllUpTo, Dial, dial_of, dial_with, fax_told, is_reinvite, table_after}
use Rattle.fax_switch.specs.Places.{called_place, calling_place, holds, holds_leg}
use Rattle.fax_switch.specs.Tables.{is_on}

-- ---- a page goes to the machine that was called

abbrev pub OnCalled : Leg → Type 0 → Type 0
OnCalled Calling P = Unit {0}
OnCalled Called P = P

-- A peer of a called leg: the newest dial of its line, whose number a route takes and whose job is not over, opened this call's dialog over that route; and T.38 was
-- described there in what just came within that dialog.
abbrev pub IsOfItsDial : (ℕ → Option Dial) → Option FaxEnd → ℕ → ℕ → LineAction → Type 0
IsOfItsDial dial told id route (Peer place end moved) =
    OnCalled place.leg ((dial place.line ≡ Some (dial_with id place.call route))
    × (told ≡ Some end))
IsOfItsDial dial told id route NoWord = Unit {0}
IsOfItsDial dial told id route RingAny = Unit {0}
IsOfItsDial dial told id route (AudioOn place address) = Unit {0}
IsOfItsDial dial told id route (AudioOff place) = Unit {0}
IsOfItsDial dial told id route (RefuseCall place status) = Unit {0}
IsOfItsDial dial told id route (HangUpLeg place) = Unit {0}

-- Ruled out: a late answer that gives the leg a peer for the job after; the peer of another line; a peer once the job is over; one where no route took the number.
abbrev pub PeersAreOfTheirDials : Type 0
PeersAreOfTheirDials = (most now : ℕ) (event : Event) (past : List (ℕ × Event))
    → Each (λ entry. IsOfItsDial (dial_of most past) (fax_told event entry.call.id)
    entry.call.id entry.call.route entry.line) (table_after most ((now, event) ∷ past)).entries

-- An INVITE that opens a dialog for a leg goes over the route of its line's newest dial.
abbrev pub IsOverItsRoute : (ℕ → Option Dial) → ℕ → ℕ → ℕ → Option Place → Type 0
IsOverItsRoute dial id route over None = Unit {0}
IsOverItsRoute dial id route over (Some place) =
    (over ≡ route) × OnCalled place.leg (dial place.line ≡ Some (dial_with id place.call route))

abbrev pub IsRouted : (ℕ → Option Dial) → ℕ → ℕ → Option Place → SipAction → Type 0
IsRouted dial id route held (SendOffer over offer) = IsOverItsRoute dial id route over held
IsRouted dial id route held other = Unit {0}

-- Ruled out: an INVITE to another route than the dial's; one more for a job that is over.
abbrev pub OffersAreRouted : Type 0
OffersAreRouted = (most : ℕ) (past : List (ℕ × Event)) → Each (λ entry. IsRouted (dial_of most past)
    entry.call.id entry.call.route entry.call.place entry.sip) (table_after most past).entries

-- ---- one dialog a leg

abbrev pub AreOnOtherLegs : Option Place → Option Place → Type 0
AreOnOtherLegs held None = Unit {0}
AreOnOtherLegs held (Some place) = holds_leg held place ≡ false

-- No two calls have one number, and no two hold one leg of a line.
-- Ruled out: a second call on a leg that was rung or dialled anew; two calls that one `ring any` was answered for.
abbrev pub LegsHaveOneCall : Type 0
LegsHaveOneCall = (most : ℕ) (past : List (ℕ × Event))
    → EachTwo (λ entry other. ((entry.call.id == other.call.id) ≡ false)
    × AreOnOtherLegs entry.call.place other.call.place) (table_after most past).entries

-- ---- what is answered 200 rang a line

abbrev pub IsRungFor : Event → ℕ → Option Place → Type 0
IsRungFor (Rung id on) call held = (id ≡ call) × (held ≡ Some (calling_place on))
IsRungFor other call held = ⊥

abbrev pub IsAcceptedFor : Event → ℕ → Option Place → SipAction → Type 0
IsAcceptedFor event call held (Accept offer) =
    (is_reinvite event call ≡ true) ⊎ IsRungFor event call held
IsAcceptedFor event call held other = Unit {0}

-- 200 to an INVITE that calls goes out as the one answer to `ring any` comes, and the call holds the leg that was rung; all other 200 are within a dialog.
abbrev pub AnsweredCallsAreRung : Type 0
AnsweredCallsAreRung = (most now : ℕ) (event : Event) (past : List (ℕ × Event))
    → Each (λ entry. IsAcceptedFor event entry.call.id entry.call.place entry.sip)
    (table_after most ((now, event) ∷ past)).entries

-- ---- each dialog ends

-- the line lets go of the call
abbrev pub lets_go : Event → Option Place → Bool
lets_go (CallOver on) held = holds held (calling_place on)
lets_go (JobOver on) held = holds held (called_place on)
lets_go Elapsed held = false
lets_go (Came route said) held = false
lets_go (Rung id on) held = false
lets_go (NotRung id status) held = false
lets_go (Dialled on choice) held = false
lets_go (Within id event) held = false

-- no call of this number is on
abbrev pub NoneIsOn : ℕ → List Entry → Type 0
NoneIsOn id entries = Each (λ entry. (id == entry.call.id) ≡ true → is_on entry ≡ false) entries

-- 64 s after the line let go of a call two more happenings leave nothing of it, whatever came between.
-- Ruled out: a BYE that waits for an ACK for ever; a bound that begins anew with each thing that comes; a 2xx after our CANCEL that begins a call.
abbrev pub CallsEnd : Type 0
CallsEnd = (most told first second : ℕ) (over one other : Event) (past between : List (ℕ × Event))
    → AllUpTo told past → told + 64000 ≤ first
    → told + 64000 ≤ second → Each (λ entry. lets_go over entry.call.place ≡ true
    → NoneIsOn entry.call.id (table_after most ((second, other)
    ∷ ((first, one) ∷ (between ++ (told, over) ∷ past)))).entries) (table_after most past).entries
