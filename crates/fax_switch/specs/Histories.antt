-- What has happened to the switch, newest first; which call a leg of a line was given to.
use Rattle.std.specs.Prelude.{ℕ, ◌≤◌, ◌==◌, ◌&&◌, Bool, true, false, if◌then◌else◌, List, [], ◌∷◌, Option, None, Some}
use Rattle.fax_switch.specs.declared.event.CallEvent.{CallEvent}
use Rattle.fax_switch.specs.declared.event.CallEvent.TheVariants.{InviteAnswered, AnswerRepeated, Reinvited, Acknowledged, ByeReceived, ByeDone, CancelReceived, RefreshDue, Expired}
use Rattle.fax_switch.specs.declared.event.Choice.{Choice}
use Rattle.fax_switch.specs.declared.event.Choice.TheVariants.{Routed, Unrouted, TrunkFull}
use Rattle.fax_switch.specs.declared.event.Event.{Event}
use Rattle.fax_switch.specs.declared.event.Event.TheVariants.{Elapsed, Came, Rung, NotRung, Dialled, CallOver, JobOver, Within}
use Rattle.fax_switch.specs.declared.media.Description.{Description}
use Rattle.fax_switch.specs.declared.media.Description.TheVariants.{FaxAt, AudioAt, NothingSaid, Unusable}
use Rattle.fax_switch.specs.declared.media.FaxEnd.{FaxEnd}
use Rattle.fax_switch.specs.declared.place.LineCall.{LineCall}
use Rattle.fax_switch.specs.Tables.{Table, begun, row}

-- the calls after what happened
abbrev pub table_after : ℕ → List (ℕ × Event) → Table
table_after most [] = begun most
table_after most (happening ∷ past) = row (table_after most past) happening.0 happening.1

-- ---- the called leg: the newest dial of a line, where a route takes its number and its job is not over

pub record Dial : Type 0 where
  pub id : ℕ
  pub call : ℕ
  pub route : ℕ

abbrev pub dial_with : ℕ → ℕ → ℕ → Dial
dial_with id call route = record { id = id; call = call; route = route }

abbrev pub dial_by : ℕ → LineCall → Choice → Option Dial
dial_by id on (Routed route offer) = Some (dial_with id on.call route)
dial_by id on Unrouted = None
dial_by id on TrunkFull = None

abbrev pub is_dial_of : LineCall → Option Dial → Bool
is_dial_of on None = false
is_dial_of on (Some dial) = dial.call == on.call

abbrev pub dial_after : ℕ → ℕ → Event → Option Dial → Option Dial
dial_after id line (Dialled on choice) before =
    if line == on.line then dial_by id on choice else before
dial_after id line (JobOver on) before =
    if line == on.line && is_dial_of on before then None else before
dial_after id line Elapsed before = before
dial_after id line (Came route said) before = before
dial_after id line (Rung call on) before = before
dial_after id line (NotRung call status) before = before
dial_after id line (CallOver on) before = before
dial_after id line (Within call event) before = before

abbrev pub dial_of : ℕ → List (ℕ × Event) → ℕ → Option Dial
dial_of most [] line = None
dial_of most (happening ∷ past) line =
    dial_after (table_after most past).next line happening.1 (dial_of most past line)

-- ---- the calling leg: the newest ring of a line, where its call is not over

pub record Ring : Type 0 where
  pub id : ℕ
  pub call : ℕ

abbrev pub ring_with : ℕ → ℕ → Ring
ring_with id call = record { id = id; call = call }

abbrev pub is_ring_of : LineCall → Option Ring → Bool
is_ring_of on None = false
is_ring_of on (Some ring) = ring.call == on.call

abbrev pub ring_after : ℕ → Event → Option Ring → Option Ring
ring_after line (Rung id on) before =
    if line == on.line then Some (ring_with id on.call) else before
ring_after line (CallOver on) before =
    if line == on.line && is_ring_of on before then None else before
ring_after line Elapsed before = before
ring_after line (Came route said) before = before
ring_after line (NotRung call status) before = before
ring_after line (Dialled on choice) before = before
ring_after line (JobOver on) before = before
ring_after line (Within call event) before = before

abbrev pub ring_of : List (ℕ × Event) → ℕ → Option Ring
ring_of [] line = None
ring_of (happening ∷ past) line = ring_after line happening.1 (ring_of past line)

-- ---- T.38 that a message of a call's dialog described

abbrev pub fax_said : Description → Option FaxEnd
fax_said (FaxAt end) = Some end
fax_said (AudioAt address) = None
fax_said NothingSaid = None
fax_said Unusable = None

abbrev pub fax_in : CallEvent → Option FaxEnd
fax_in (InviteAnswered status pause said) = fax_said said
fax_in AnswerRepeated = None
fax_in (Reinvited said) = fax_said said
fax_in (Acknowledged said) = fax_said said
fax_in ByeReceived = None
fax_in ByeDone = None
fax_in CancelReceived = None
fax_in RefreshDue = None
fax_in Expired = None

-- in an answer to an INVITE of ours, in their re-INVITE, or in the ACK that answers our offer
abbrev pub fax_told : Event → ℕ → Option FaxEnd
fax_told (Within id event) call = if id == call then fax_in event else None
fax_told Elapsed call = None
fax_told (Came route said) call = None
fax_told (Rung id on) call = None
fax_told (NotRung id status) call = None
fax_told (Dialled on choice) call = None
fax_told (CallOver on) call = None
fax_told (JobOver on) call = None

-- a re-INVITE within the dialog of this call
abbrev pub reinvites : CallEvent → Bool
reinvites (Reinvited said) = true
reinvites other = false

abbrev pub is_reinvite : Event → ℕ → Bool
is_reinvite (Within id event) call = if id == call then reinvites event else false
is_reinvite other call = false

-- nothing happened after a moment
abbrev pub AllUpTo : ℕ → List (ℕ × Event) → Type 0
AllUpTo told [] = Unit {0}
AllUpTo told (happening ∷ past) = (happening.0 ≤ told) × AllUpTo told past
