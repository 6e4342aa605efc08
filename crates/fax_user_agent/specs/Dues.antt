-- When something is due in the calls of the switch, and what time brings.
use Rattle.std.specs.Prelude.{◌≡◌, ℕ, ◌≤◌, ⊤, ◌⊎◌, min, List, Option, None, Some}
use Rattle.std.specs.List.{All}
use Rattle.fax_dialogs.specs.Sessions.{next_due}
use Rattle.fax_switch.specs.declared.call.Entry.{Entry}
use Rattle.fax_switch.specs.declared.call.Stage.{Stage}
use Rattle.fax_switch.specs.declared.call.Stage.TheVariants.{Asking, Dropped, Placing, Cancelling, Talking, Over}
use Rattle.fax_switch.specs.declared.event.CallEvent.{CallEvent}
use Rattle.fax_switch.specs.declared.event.CallEvent.TheVariants as call
use Rattle.fax_switch.specs.declared.event.Event.{Event}
use Rattle.fax_switch.specs.declared.event.Event.TheVariants as happening
use Rattle.fax_switch.specs.declared.media.Description.TheVariants.{NothingSaid}

-- Time answers an INVITE of ours that nobody answered by 408 (RFC 3261, 8.1.3.1), and one that could not be sent by 500; it gives up a BYE; a session is to be
-- refreshed then, or was not in time. It describes no media.
abbrev pub IsOfTime : CallEvent → Type 0
IsOfTime (call.InviteAnswered told pause said) =
    ((told ≡ 408) ⊎ (told ≡ 500)) × (pause ≡ 0) × (said ≡ NothingSaid)
IsOfTime call.AnswerRepeated = ⊥
IsOfTime (call.Reinvited said) = ⊥
IsOfTime (call.Acknowledged said) = ⊥
IsOfTime call.ByeReceived = ⊥
IsOfTime call.ByeDone = ⊤
IsOfTime call.CancelReceived = ⊥
IsOfTime call.RefreshDue = ⊤
IsOfTime call.Expired = ⊤

-- what time brings the switch: that in one call, or just that it passed
abbrev pub MayBeDue : Event → Type 0
MayBeDue happening.Elapsed = ⊤
MayBeDue (happening.Came route said) = ⊥
MayBeDue (happening.Rung id on) = ⊥
MayBeDue (happening.NotRung id refusal) = ⊥
MayBeDue (happening.Dialled on choice) = ⊥
MayBeDue (happening.CallOver on) = ⊥
MayBeDue (happening.JobOver on) = ⊥
MayBeDue (happening.Within id happened) = IsOfTime happened

-- the moment from which time does something in a call
abbrev pub due_of : Stage → Option ℕ
due_of (Asking said until) = Some until
due_of (Dropped until) = Some until
due_of (Placing offer again) = None
due_of (Cancelling until) = Some until
due_of (Talking session media) = next_due session
due_of Over = None

-- the earlier of two moments
abbrev pub earlier_of : Option ℕ → Option ℕ → Option ℕ
earlier_of (Some one) (Some other) = Some (min one other)
earlier_of (Some one) None = Some one
earlier_of None other = other

-- there is a moment, no later than another, where there is another
abbrev pub ComesBy : Option ℕ → Option ℕ → Type 0
ComesBy due None = ⊤
ComesBy None (Some until) = ⊥
ComesBy (Some moment) (Some until) = moment ≤ until

-- and no later than what is due in any of these calls
abbrev pub ComesByAll : Option ℕ → List Entry → Type 0
ComesByAll due entries = All (λ entry. ComesBy due (due_of entry.call.stage)) entries
