-- Which event a message may be for the switch (RFC 3261, 12 to 15; this project's profile).
use Rattle.std.specs.Prelude.{◌≡◌, ℕ, ◌≤◌, ◌<◌, ◌⊎◌, Bool, true, false, List, codes, Option, is_some, Result, Ok, IfOk, IfSome}
use Rattle.fax_sip.specs.declared.start.Method.{Method}
use Rattle.fax_sip.specs.declared.start.Method.TheVariants as method
use Rattle.fax_sip.specs.Messages.{MessageText}
use Rattle.fax_sip.specs.Parameters.{parameter_of, user_of}
use Rattle.fax_sip.specs.Starts.{StartText, Request, Answer, method_of}
use Rattle.fax_switch.specs.Descriptions.{Says}
use Rattle.fax_switch.specs.declared.event.CallEvent.{CallEvent}
use Rattle.fax_switch.specs.declared.event.CallEvent.TheVariants as call
use Rattle.fax_switch.specs.declared.event.Event.{Event}
use Rattle.fax_switch.specs.declared.event.Event.TheVariants as happening
use Rattle.fax_switch.specs.declared.media.Description.{Description}
use Rattle.fax_switch.specs.declared.media.Description.TheVariants.{NothingSaid}
use Rattle.fax_trunks.specs.Numbers.{reading_of_user}
use Rattle.fax_trunks.specs.RouteValues.{RouteValue}
use Rattle.fax_trunks.specs.Routes.{IsChoice, fits_of}

-- a 2xx to an INVITE of ours is told with what it describes, or as 500 where no dialog comes of it
abbrev pub IsAcceptance : ℕ → List ℕ → ℕ → Description → Type 0
IsAcceptance status body told said =
    ((told ≡ status) × Says body said) ⊎ ((told ≡ 500) × (said ≡ NothingSaid))

-- a refusal is told as it is, or as 408 where we cancelled the INVITE since it rang too long
abbrev pub IsRefusal : ℕ → ℕ → Type 0
IsRefusal status told = (told ≡ status) ⊎ ((status ≡ 487) × (told ≡ 408))

abbrev pub IsFinal : ℕ → List ℕ → ℕ → Description → Type 0
IsFinal status body told said = ((status < 300) × IsAcceptance status body told said)
    ⊎ ((300 ≤ status) × IsRefusal status told × (said ≡ NothingSaid))

-- an answer with this status: the final one to an INVITE, or to a BYE, or a 2xx to an INVITE once more
abbrev pub IsOfAnswer : MessageText → ℕ → CallEvent → Type 0
IsOfAnswer text status (call.InviteAnswered told pause said) =
    (200 ≤ status) × IsFinal status text.body told said
IsOfAnswer text status call.AnswerRepeated =
    (200 ≤ status) × (status < 300) × (text.sequence.method ≡ codes "INVITE")
IsOfAnswer text status (call.Reinvited said) = ⊥
IsOfAnswer text status (call.Acknowledged said) = ⊥
IsOfAnswer text status call.ByeReceived = ⊥
IsOfAnswer text status call.ByeDone = 200 ≤ status
IsOfAnswer text status call.CancelReceived = ⊥
IsOfAnswer text status call.RefreshDue = ⊥
IsOfAnswer text status call.Expired = ⊥

-- a request within a dialog has a tag of ours (12.2.1.1)
abbrev pub is_within : MessageText → Bool
is_within text = is_some (parameter_of (codes "tag") text.to)

-- a request with this method that is in a call
abbrev pub IsOfRequest : MessageText → Method → CallEvent → Type 0
IsOfRequest text asked (call.InviteAnswered told pause said) = ⊥
IsOfRequest text asked call.AnswerRepeated = ⊥
IsOfRequest text asked (call.Reinvited said) =
    (asked ≡ method.Invite) × (is_within text ≡ true) × Says text.body said
IsOfRequest text asked (call.Acknowledged said) = (asked ≡ method.Ack) × Says text.body said
IsOfRequest text asked call.ByeReceived = asked ≡ method.Bye
IsOfRequest text asked call.ByeDone = ⊥
IsOfRequest text asked call.CancelReceived = asked ≡ method.Cancel
IsOfRequest text asked call.RefreshDue = ⊥
IsOfRequest text asked call.Expired = ⊥

-- the number of an address has this route
abbrev pub IsRouted : List RouteValue → List ℕ → ℕ → Type 0
IsRouted routes uri route = (number : List ℕ)
    × (reading_of_user (user_of uri) ≡ Ok number) × IsChoice (fits_of routes number) route

-- an INVITE that calls a number with a route
abbrev pub IsCall : List RouteValue → List ℕ → MessageText → Method → ℕ → Description → Type 0
IsCall routes uri text asked route said = (asked ≡ method.Invite)
    × (is_within text ≡ false) × IsRouted routes uri route × Says text.body said

abbrev pub MayBeAnswer : MessageText → ℕ → Event → Type 0
MayBeAnswer text status happening.Elapsed = ⊥
MayBeAnswer text status (happening.Came route said) = ⊥
MayBeAnswer text status (happening.Rung id on) = ⊥
MayBeAnswer text status (happening.NotRung id refusal) = ⊥
MayBeAnswer text status (happening.Dialled on choice) = ⊥
MayBeAnswer text status (happening.CallOver on) = ⊥
MayBeAnswer text status (happening.JobOver on) = ⊥
MayBeAnswer text status (happening.Within id happened) = IsOfAnswer text status happened

abbrev pub MayBeRequest : List RouteValue → List ℕ → MessageText → Method → Event → Type 0
MayBeRequest routes uri text asked happening.Elapsed = ⊥
MayBeRequest routes uri text asked (happening.Came route said) =
    IsCall routes uri text asked route said
MayBeRequest routes uri text asked (happening.Rung id on) = ⊥
MayBeRequest routes uri text asked (happening.NotRung id refusal) = ⊥
MayBeRequest routes uri text asked (happening.Dialled on choice) = ⊥
MayBeRequest routes uri text asked (happening.CallOver on) = ⊥
MayBeRequest routes uri text asked (happening.JobOver on) = ⊥
MayBeRequest routes uri text asked (happening.Within id happened) = IsOfRequest text asked happened

abbrev pub MayBeOf : List RouteValue → StartText → MessageText → Event → Type 0
MayBeOf routes (Request word uri) text event = MayBeRequest routes uri text (method_of word) event
MayBeOf routes (Answer status) text event = MayBeAnswer text status event

-- The event that a message is for the switch, over these routes, if it is one at all.
abbrev pub MayBe : List RouteValue → MessageText → Event → Type 0
MayBe routes text event = MayBeOf routes text.start text event

-- what came of a message, where memory sufficed: such an event, or none
abbrev pub Brings : {E : Type 0} → (Event → Type 0) → Result (Option Event) E → Type 0
Brings may result = IfOk result (λ found. IfSome found may)
