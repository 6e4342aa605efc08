-- A call of the switch, event by event: its stage, what is sent for it, and what its line is told (RFC 3261, 9, 12 to 15; RFC 3264; T.38, annex D). What the RFCs
-- leave open is this project's profile. Any event lets time pass for the calls that it is not about.
use Rattle.std.specs.Prelude.{ℕ, ◌==◌, ◌&&◌, ◌||◌, not, nat_le, nat_lt, Bool, true, false, if◌then◌else◌, Option, None, Some}
use Rattle.fax_dialogs.specs.declared.session.Next.TheVariants.{Stay, Again}
use Rattle.fax_dialogs.specs.declared.session.Session.{Session}
use Rattle.fax_dialogs.specs.declared.session.Session.TheVariants.{Confirmed, Accepted, Inviting, Invited, Ending, Ended}
use Rattle.fax_dialogs.specs.declared.session_action.SessionAction.{SessionAction}
use Rattle.fax_dialogs.specs.declared.session_action.SessionAction.TheVariants.{Nothing, SendInvite, SendAnswer, SendAgain, TellInvite, Refuse, Acknowledge, TellAndAcknowledge, TellRefused, SendBye, TellAndSendBye, SendByeAndRefuse, AnswerBye, AnswerByeAndRefuse}
use Rattle.fax_dialogs.specs.declared.session_event.SessionEvent.TheVariants.{TimePassed, Reinvite, Answer, HangUp, InviteCame, AckCame, ByeCame, Answered, AnsweredAgain, ByeAnswered}
use Rattle.fax_dialogs.specs.Sessions.{accepted, ending, row}
use Rattle.fax_transactions.specs.Spans.{later, timeout}
use Rattle.fax_switch.specs.declared.action.LineAction.{LineAction}
use Rattle.fax_switch.specs.declared.action.LineAction.TheVariants.{NoWord, RingAny, Peer, AudioOn, AudioOff, RefuseCall, HangUpLeg}
use Rattle.fax_switch.specs.declared.action.SipAction.{SipAction}
use Rattle.fax_switch.specs.declared.action.SipAction.TheVariants.{Silence, SendOffer, Cancel, Accept, AcceptAgain, Reject, Ack, AckAndBye, InviteAgain, Bye, ByeAndReject, AcceptBye, AcceptByeAndReject}
use Rattle.fax_switch.specs.declared.call.Call.{Call}
use Rattle.fax_switch.specs.declared.call.Entry.{Entry}
use Rattle.fax_switch.specs.declared.call.Stage.{Stage}
use Rattle.fax_switch.specs.declared.call.Stage.TheVariants.{Asking, Dropped, Placing, Cancelling, Talking, Over}
use Rattle.fax_switch.specs.declared.event.CallEvent.{CallEvent}
use Rattle.fax_switch.specs.declared.event.CallEvent.TheVariants.{InviteAnswered, AnswerRepeated, Reinvited, Acknowledged, ByeReceived, ByeDone, CancelReceived, RefreshDue, Expired}
use Rattle.fax_switch.specs.declared.event.Event.{Event}
use Rattle.fax_switch.specs.declared.event.Event.TheVariants.{Elapsed, Came, Rung, NotRung, Dialled, CallOver, JobOver, Within}
use Rattle.fax_switch.specs.declared.event.Choice.{Choice}
use Rattle.fax_switch.specs.declared.event.Choice.TheVariants.{Routed, Unrouted, TrunkFull}
use Rattle.fax_switch.specs.declared.media.AudioEnd.{AudioEnd}
use Rattle.fax_switch.specs.declared.media.Description.{Description}
use Rattle.fax_switch.specs.declared.media.Description.TheVariants.{FaxAt, AudioAt, NothingSaid, Unusable}
use Rattle.fax_switch.specs.declared.media.FaxEnd.{FaxEnd}
use Rattle.fax_switch.specs.declared.media.Media.{Media}
use Rattle.fax_switch.specs.declared.media.Media.TheVariants.{AudioOnly, FaxAgreed, FaxOffered}
use Rattle.fax_switch.specs.declared.media.Offer.{Offer}
use Rattle.fax_switch.specs.declared.media.Offer.TheVariants.{Fax, Audio}
use Rattle.fax_switch.specs.declared.place.Leg.{Leg}
use Rattle.fax_switch.specs.declared.place.Leg.TheVariants.{Called}
use Rattle.fax_switch.specs.declared.place.LineCall.{LineCall}
use Rattle.fax_switch.specs.declared.place.Place.{Place}
use Rattle.fax_switch.specs.Places.{called_place, calling_place, holds, holds_leg}

-- a call's number and its route stay
abbrev pub entry_of : Call → Option Place → Stage → SipAction → LineAction → Entry
entry_of call place stage sip line = record {
  call = record {
    id = call.id;
    route = call.route;
    place = place;
    stage = stage;
  };
  sip = sip;
  line = line;
}

-- nothing of it is left once its dialog is over
abbrev pub stage_of : Session → Media → Stage
stage_of (Confirmed reinvite) media = Talking (Confirmed reinvite) media
stage_of (Accepted again pause until next) media = Talking (Accepted again pause until next) media
stage_of Inviting media = Talking Inviting media
stage_of (Invited reinvite) media = Talking (Invited reinvite) media
stage_of (Ending until) media = Talking (Ending until) media
stage_of Ended media = Over

abbrev pub is_confirmed : Session → Bool
is_confirmed (Confirmed reinvite) = true
is_confirmed other = false

abbrev pub is_agreed : Media → Bool
is_agreed FaxAgreed = true
is_agreed other = false

-- ---- what a line is told: nothing where the call holds no leg

-- an end that is not the line's: a job's call that has no T.38 yet was not placed (488)
abbrev pub end_word : Leg → Place → Bool → LineAction
end_word Called place false = RefuseCall place 488
end_word leg place agreed = HangUpLeg place

abbrev pub hang_up : Option Place → Media → LineAction
hang_up None media = NoWord
hang_up (Some place) media = end_word place.leg place (is_agreed media)

abbrev pub peer : Option Place → Media → FaxEnd → LineAction
peer None media end = NoWord
peer (Some place) media end = Peer place end (is_agreed media)

abbrev pub audio : Option Place → AudioEnd → LineAction
audio None address = NoWord
audio (Some place) address = AudioOn place address

abbrev pub refuse : Option Place → ℕ → LineAction
refuse None status = NoWord
refuse (Some place) status = RefuseCall place status

abbrev pub silence : Option Place → Media → LineAction
silence None media = NoWord
silence (Some place) media = if is_agreed media then NoWord else AudioOff place

-- ---- a dialog that is on

-- what is done in a session where nothing is described; with its end the leg is let go
abbrev pub plain : Call → Media → Session → SessionAction → Entry
plain call media state Nothing = entry_of call call.place (stage_of state media) Silence NoWord
plain call media state SendInvite =
    entry_of call call.place (stage_of state media) InviteAgain NoWord
plain call media state SendAnswer = entry_of call call.place (stage_of state media) Silence NoWord
plain call media state SendAgain =
    entry_of call call.place (stage_of state media) AcceptAgain NoWord
plain call media state TellInvite = entry_of call call.place (stage_of state media) Silence NoWord
plain call media state (Refuse status) =
    entry_of call call.place (stage_of state media) (Reject status) NoWord
plain call media state Acknowledge = entry_of call call.place (stage_of state media) Ack NoWord
plain call media state TellAndAcknowledge =
    entry_of call call.place (stage_of state media) Ack NoWord
plain call media state (TellRefused status) =
    entry_of call call.place (stage_of state media) Silence NoWord
plain call media state SendBye =
    entry_of call None (stage_of state media) Bye (hang_up call.place media)
plain call media state TellAndSendBye =
    entry_of call None (stage_of state media) Bye (hang_up call.place media)
plain call media state SendByeAndRefuse =
    entry_of call None (stage_of state media) ByeAndReject (hang_up call.place media)
plain call media state AnswerBye =
    entry_of call None (stage_of state media) AcceptBye (hang_up call.place media)
plain call media state AnswerByeAndRefuse =
    entry_of call None (stage_of state media) AcceptByeAndReject (hang_up call.place media)

abbrev pub plainly : Call → Media → Session × SessionAction → Entry
plainly call media r = plain call media r.0 r.1

-- The answer to our re-INVITE has T.38, and the leg gets its peer; or it has none, and the call ends.
abbrev pub agreed_by : Call → Media → ℕ → Session → Description → Entry
agreed_by call media now state (FaxAt end) =
    entry_of call call.place (stage_of state FaxAgreed) Ack (peer call.place media end)
agreed_by call media now state other =
    entry_of call None (Talking (ending now) media) AckAndBye (hang_up call.place media)

-- Our re-INVITE was refused: the call ends at once where there is no T.38, and goes on as it was where there is (14.1).
abbrev pub refused_by : Call → Media → ℕ → Session → Entry
refused_by call FaxAgreed now state =
    entry_of call call.place (stage_of state FaxAgreed) Silence NoWord
refused_by call media now state =
    entry_of call None (Talking (ending now) media) Bye (hang_up call.place media)

abbrev pub answered_by : Call → Media → ℕ → Description → Session → SessionAction → Entry
answered_by call media now said state TellAndAcknowledge = if is_confirmed state
    then agreed_by call media now state said else plain call media state TellAndAcknowledge
answered_by call media now said state (TellRefused status) = if is_confirmed state
    then refused_by call media now state else plain call media state (TellRefused status)
answered_by call media now said state other = plain call media state other

-- Their re-INVITE: T.38 is taken, and audio while there is nothing else; where nothing is described we offer T.38.
abbrev pub answer_to : Media → Description → ℕ
answer_to media (FaxAt end) = 200
answer_to AudioOnly (AudioAt address) = 200
answer_to media (AudioAt address) = 488
answer_to media NothingSaid = 200
answer_to media Unusable = 488

abbrev pub media_by : Media → Description → Media
media_by media (FaxAt end) = FaxAgreed
media_by FaxAgreed NothingSaid = FaxAgreed
media_by media NothingSaid = FaxOffered
media_by media other = media

abbrev pub answered_with : Media → Description → SipAction
answered_with media (FaxAt end) = Accept Fax
answered_with AudioOnly (AudioAt address) = Accept Audio
answered_with media (AudioAt address) = Reject 488
answered_with media NothingSaid = Accept Fax
answered_with media Unusable = Reject 488

abbrev pub word_by : Option Place → Media → Description → LineAction
word_by place media (FaxAt end) = peer place media end
word_by place AudioOnly (AudioAt address) = audio place address
word_by place media other = NoWord

-- With T.38 in our 2xx to theirs, a re-INVITE of ours that waited brings nothing any more, and is not sent (14.1: "if it still desires for that session modification").
abbrev pub without_ours : Session → Session
without_ours (Invited reinvite) = Invited None
without_ours other = other

abbrev pub ours_by : Description → Session → Session
ours_by (FaxAt end) state = without_ours state
ours_by NothingSaid state = without_ours state
ours_by other state = state

abbrev pub reinvited_by : Call → Media → ℕ → Description → Session → SessionAction → Entry
reinvited_by call media now said state TellInvite =
    entry_of call call.place (stage_of (row (ours_by said state) now (Answer (answer_to media
    said))).0 (media_by media said)) (answered_with media said) (word_by call.place media said)
reinvited_by call media now said state other = plain call media state other

-- The ACK of our 2xx has their answer where we offered; where it has none the call ends.
abbrev pub answer_in_ack : Call → Media → ℕ → Session → Description → Entry
answer_in_ack call AudioOnly now state said =
    entry_of call call.place (stage_of state AudioOnly) Silence NoWord
answer_in_ack call media now state (FaxAt end) =
    entry_of call call.place (stage_of state FaxAgreed) Silence (peer call.place media end)
answer_in_ack call FaxAgreed now state said =
    entry_of call call.place (stage_of state FaxAgreed) Silence NoWord
answer_in_ack call FaxOffered now state said =
    entry_of call None (Talking (ending now) FaxOffered) Bye (hang_up call.place FaxOffered)

abbrev pub acknowledged_by : Call → Media → ℕ → Description → Session → SessionAction → Entry
acknowledged_by call media now said state Nothing = if is_confirmed state
    then answer_in_ack call media now state said else plain call media state Nothing
acknowledged_by call media now said state other = plain call media state other

abbrev pub talked : Call → Session → Media → ℕ → CallEvent → Entry
talked call state media now (InviteAnswered status pause said) = answered_by call media
    now said (row state now (Answered status pause)).0 (row state now (Answered status pause)).1
talked call state media now AnswerRepeated = plainly call media (row state now AnsweredAgain)
talked call state media now (Reinvited said) =
    reinvited_by call media now said (row state now InviteCame).0 (row state now InviteCame).1
talked call state media now (Acknowledged said) =
    acknowledged_by call media now said (row state now AckCame).0 (row state now AckCame).1
talked call state media now ByeReceived = plainly call media (row state now ByeCame)
talked call state media now ByeDone = plainly call media (row state now ByeAnswered)
talked call state media now CancelReceived = plainly call media (row state now TimePassed)
talked call state media now RefreshDue = plainly call media (row state now Reinvite)
talked call state media now Expired = plainly call media (row state now HangUp)

-- ---- our INVITE is under way

-- other media are offered once where these are refused: 488, 415, 606
abbrev pub other_offer : Offer → Offer
other_offer Fax = Audio
other_offer Audio = Fax

abbrev pub is_of_media : ℕ → Bool
is_of_media status = status == 488 || status == 415 || status == 606

-- A 2xx with T.38 gives the leg its peer. After one with audio their re-INVITE is waited for, 4 s; then ours goes out. Any other has no use, and the call ends.
abbrev pub connected : Call → Offer → ℕ → Description → Entry
connected call offer now (FaxAt end) = entry_of
    call call.place (Talking (Confirmed None) FaxAgreed) Ack (peer call.place AudioOnly end)
connected call Audio now (AudioAt address) = entry_of call call.place
    (Talking (Confirmed (Some (later now 4000))) AudioOnly) Ack (audio call.place address)
connected call offer now other =
    entry_of call None (Talking (ending now) AudioOnly) AckAndBye (refuse call.place 488)

abbrev pub placed : Call → Offer → Bool → ℕ → CallEvent → Entry
placed call offer again now (InviteAnswered status pause said) = if nat_lt status 200
    then entry_of call call.place (Placing offer again) Silence NoWord else if nat_lt status 300
    then connected call offer now said else if is_of_media status && not again
    then entry_of call call.place (Placing (other_offer offer) true)
    (SendOffer call.route (other_offer offer)) NoWord
    else entry_of call None Over Silence (refuse call.place status)
placed call offer again now other = entry_of call call.place (Placing offer again) Silence NoWord

-- a 2xx that comes all the same is acknowledged, and ended (9.1)
abbrev pub cancelled : Call → ℕ → ℕ → CallEvent → Entry
cancelled call until now (InviteAnswered status pause said) = if nat_lt status 200
    then entry_of call None (Cancelling until) Silence NoWord else if nat_lt status 300
    then entry_of call None (Talking (ending now) AudioOnly) AckAndBye NoWord
    else entry_of call None Over Silence NoWord
cancelled call until now other = entry_of call None (Cancelling until) Silence NoWord

-- ---- each stage

-- time passes
abbrev pub passed : Call → ℕ → Stage → Entry
passed call now (Asking said until) =
    if nat_le until now then entry_of call None Over (Reject 480) NoWord
    else entry_of call call.place (Asking said until) Silence NoWord
passed call now (Dropped until) = if nat_le until now then entry_of call None Over Silence NoWord
    else entry_of call call.place (Dropped until) Silence NoWord
passed call now (Placing offer again) =
    entry_of call call.place (Placing offer again) Silence NoWord
passed call now (Cancelling until) = if nat_le until now then entry_of call None Over Silence NoWord
    else entry_of call None (Cancelling until) Silence NoWord
passed call now (Talking state media) = plainly call media (row state now TimePassed)
passed call now Over = entry_of call None Over Silence NoWord

-- a CANCEL of an INVITE that waits for a line (9.2); the line may come all the same
abbrev pub within : Call → ℕ → Stage → CallEvent → Entry
within call now (Asking said until) CancelReceived =
    entry_of call call.place (Dropped until) (Reject 487) NoWord
within call now (Placing offer again) event = placed call offer again now event
within call now (Cancelling until) event = if nat_le until now
    then entry_of call None Over Silence NoWord else cancelled call until now event
within call now (Talking state media) event = talked call state media now event
within call now other event = passed call now other

-- the line's call is over: the dialog ends, by CANCEL before it is there
abbrev pub with_word : LineAction → Entry → Entry
with_word word entry = record { call = entry.call; sip = entry.sip; line = word }

abbrev pub freed : Call → Call
freed call = record { id = call.id; route = call.route; place = None; stage = call.stage }

abbrev pub released : Call → ℕ → Stage → Entry
released call now (Asking said until) = entry_of call None Over (Reject 480) NoWord
released call now (Dropped until) = entry_of call None Over Silence NoWord
released call now (Placing offer again) =
    entry_of call None (Cancelling (later now timeout)) Cancel NoWord
released call now (Talking state media) =
    with_word (silence call.place media) (plainly (freed call) media (row state now HangUp))
released call now other = passed (freed call) now other

-- a line was rung for it, and the call on it is its own
abbrev pub taken : Call → ℕ → Place → Description → Entry
taken call now place (FaxAt end) = entry_of call (Some place)
    (Talking (accepted now Stay) FaxAgreed) (Accept Fax) (Peer place end false)
taken call now place (AudioAt address) = entry_of call (Some place)
    (Talking (accepted now (Again now)) AudioOnly) (Accept Audio) (AudioOn place address)
taken call now place NothingSaid =
    entry_of call (Some place) (Talking (accepted now Stay) FaxOffered) (Accept Fax) NoWord
taken call now place Unusable = entry_of call None Over (Reject 488) (HangUpLeg place)

abbrev pub rung : Call → ℕ → Place → Stage → Entry
rung call now place (Asking said until) = taken call now place said
rung call now place (Dropped until) = entry_of call None Over Silence (HangUpLeg place)
rung call now place other =
    if holds_leg call.place place then released call now other else passed call now other

abbrev pub not_rung : Call → ℕ → ℕ → Stage → Entry
not_rung call now status (Asking said until) = entry_of call None Over (Reject status) NoWord
not_rung call now status (Dropped until) = entry_of call None Over Silence NoWord
not_rung call now status other = passed call now other

-- What happens at a moment. Where a line's leg has another call the call that held it is let go.
abbrev pub call_row : Call → ℕ → Event → Entry
call_row call now Elapsed = passed call now call.stage
call_row call now (Came route said) = passed call now call.stage
call_row call now (Rung id on) = if id == call.id
    then rung call now (calling_place on) call.stage else if holds_leg call.place (calling_place on)
    then released call now call.stage else passed call now call.stage
call_row call now (NotRung id status) =
    if id == call.id then not_rung call now status call.stage else passed call now call.stage
call_row call now (Dialled on choice) = if holds_leg call.place (called_place on)
    then released call now call.stage else passed call now call.stage
call_row call now (CallOver on) = if holds call.place (calling_place on)
    then released call now call.stage else passed call now call.stage
call_row call now (JobOver on) = if holds call.place (called_place on)
    then released call now call.stage else passed call now call.stage
call_row call now (Within id event) =
    if id == call.id then within call now call.stage event else passed call now call.stage

-- ---- how a call begins

abbrev pub new_call : ℕ → ℕ → Call
new_call id route = record { id = id; route = route; place = None; stage = Over }

-- An INVITE: a line is asked for, where there is room and a use for what it describes. Its answer is waited for as long as a transaction waits.
abbrev pub came : Bool → ℕ → ℕ → ℕ → Description → Entry
came room id route now Unusable = entry_of (new_call id route) None Over (Reject 488) NoWord
came room id route now said =
    if room then entry_of (new_call id route) None (Asking said (later now timeout)) Silence RingAny
    else entry_of (new_call id route) None Over (Reject 503) NoWord

-- A job's call: an INVITE over its route, or none.
abbrev pub dialled : Bool → ℕ → LineCall → Choice → Entry
dialled room id on (Routed route offer) = if room then entry_of (new_call id route)
    (Some (called_place on)) (Placing offer false) (SendOffer route offer) NoWord
    else entry_of (new_call id route) None Over Silence (RefuseCall (called_place on) 503)
dialled room id on Unrouted =
    entry_of (new_call id 0) None Over Silence (RefuseCall (called_place on) 404)
dialled room id on TrunkFull =
    entry_of (new_call id 0) None Over Silence (RefuseCall (called_place on) 503)

abbrev pub begun_by : Bool → ℕ → ℕ → Event → Option Entry
begun_by room id now (Came route said) = Some (came room id route now said)
begun_by room id now (Dialled on choice) = Some (dialled room id on choice)
begun_by room id now other = None
