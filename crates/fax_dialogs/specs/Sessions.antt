-- A session from the 2xx of an INVITE to its end, over UDP (RFC 3261, 12.2, 13.2.2.4, 13.3.1.4, 14 and 15).
use Rattle.std.specs.Prelude.{ℕ, ◌+◌, ◌*◌, ◌%◌, ◌&&◌, ◌||◌, ◌==◌, nat_le, nat_lt, Bool, min, if◌then◌else◌, Option, None, Some, unwrap_or}
use Rattle.fax_dialogs.specs.declared.role.Role.{Role}
use Rattle.fax_dialogs.specs.declared.role.Role.TheVariants.{Caller, Answerer}
use Rattle.fax_dialogs.specs.declared.session.Next.{Next}
use Rattle.fax_dialogs.specs.declared.session.Next.TheVariants.{Stay, Again, Bye}
use Rattle.fax_dialogs.specs.declared.session.Session.{Session}
use Rattle.fax_dialogs.specs.declared.session.Session.TheVariants.{Confirmed, Accepted, Inviting, Invited, Ending, Ended}
use Rattle.fax_dialogs.specs.declared.session_action.SessionAction.{SessionAction}
use Rattle.fax_dialogs.specs.declared.session_action.SessionAction.TheVariants.{Nothing, SendInvite, SendAnswer, SendAgain, TellInvite, Refuse, Acknowledge, TellAndAcknowledge, TellRefused, SendBye, TellAndSendBye, SendByeAndRefuse, AnswerBye, AnswerByeAndRefuse}
use Rattle.fax_dialogs.specs.declared.session_event.SessionEvent.{SessionEvent}
use Rattle.fax_dialogs.specs.declared.session_event.SessionEvent.TheVariants.{TimePassed, Reinvite, Answer, HangUp, InviteCame, AckCame, ByeCame, Answered, AnsweredAgain, ByeAnswered}
use Rattle.fax_transactions.specs.Spans.{t1, timeout, later, longer}

-- a 2xx
abbrev pub is_success : ℕ → Bool
is_success status = nat_le 200 status && nat_lt status 300

-- 14.1: how long our re-INVITE waits after 491, in steps of 10 ms: 2.1 to 4 s where we made the Call-ID, else 0 to 2 s
abbrev pub glare_pause : Role → ℕ → ℕ
glare_pause Caller random = 2100 + 10 * (random % 191)
glare_pause Answerer random = 10 * (random % 201)

-- ---- how it begins

-- 13.3.1.4: we sent a 2xx to their INVITE, which is sent again after T1, and for 64 T1 at most
abbrev pub accepted : ℕ → Next → Session
accepted now next = Accepted (later now t1) t1 (later now timeout) next

-- 15.1.1: a BYE is sent, whose transaction is over after 64 T1
abbrev pub ending : ℕ → Session
ending now = Ending (later now timeout)

-- ---- what happens

-- What comes in any state. 13.2.2.4: each 2xx to an INVITE of ours gets an ACK, a repeat of it again. Nothing else is heard.
abbrev pub other_row : Session → SessionEvent → Session × SessionAction
other_row state (Answered status pause) =
    if is_success status then (state, Acknowledge) else (state, Nothing)
other_row state AnsweredAgain = (state, Acknowledge)
other_row state other = (state, Nothing)

-- our re-INVITE is to be sent from this moment on
abbrev pub wished : Option ℕ → ℕ → Session × SessionAction
wished None now = (Confirmed None, Nothing)
wished (Some at) now =
    if nat_lt now at then (Confirmed (Some at), Nothing) else (Inviting, SendInvite)

-- a re-INVITE of ours is wished for while it may be sent; after 491 it waits all the same (14.1)
abbrev pub sent_or_waiting : Option ℕ → Session × SessionAction
sent_or_waiting None = (Inviting, SendInvite)
sent_or_waiting (Some at) = (Confirmed (Some at), Nothing)

-- Confirmed: no INVITE is under way.
abbrev pub confirmed_row : Option ℕ → ℕ → SessionEvent → Session × SessionAction
confirmed_row reinvite now TimePassed = wished reinvite now
confirmed_row reinvite now Reinvite = sent_or_waiting reinvite
confirmed_row reinvite now HangUp = (ending now, SendBye)
confirmed_row reinvite now InviteCame = (Invited reinvite, TellInvite)
confirmed_row reinvite now ByeCame = (Ended, AnswerBye)
confirmed_row reinvite now other = other_row (Confirmed reinvite) other

-- what is done after the ACK
abbrev pub next_of : Option ℕ → Next
next_of None = Stay
next_of (Some at) = Again at

abbrev pub next_with : Next → ℕ → Next
next_with Stay now = Again now
next_with (Again at) now = Again at
next_with Bye now = Bye

abbrev pub acknowledged : Next → ℕ → Session × SessionAction
acknowledged Stay now = (Confirmed None, Nothing)
acknowledged (Again at) now = (Confirmed (Some at), Nothing)
acknowledged Bye now = (ending now, SendBye)

-- Accepted: our 2xx is sent again, and the pause doubles up to T2, until its ACK comes (13.3.1.4). Our re-INVITE waits for the ACK, and so does our BYE (15); their next
-- INVITE is refused meanwhile.
abbrev pub accepted_row : ℕ → ℕ → ℕ → Next → ℕ → SessionEvent → Session × SessionAction
accepted_row again pause until next now TimePassed =
    if nat_lt now again then (Accepted again pause until next, Nothing)
    else (Accepted (later now (longer pause)) (longer pause) until next, SendAgain)
accepted_row again pause until next now Reinvite =
    (Accepted again pause until (next_with next now), Nothing)
accepted_row again pause until next now HangUp = (Accepted again pause until Bye, Nothing)
accepted_row again pause until next now InviteCame = (Accepted again pause until next, Refuse 500)
accepted_row again pause until next now AckCame = acknowledged next now
accepted_row again pause until next now ByeCame = (Ended, AnswerBye)
accepted_row again pause until next now other = other_row (Accepted again pause until next) other

-- An answer to our INVITE. 491: it is sent again after a pause (14.1). 408, 481: the session ends by BYE (12.2.1.2). Another refusal is told.
abbrev pub answered_row : ℕ → ℕ → ℕ → Session × SessionAction
answered_row now status pause = if nat_lt status 200 then (Inviting, Nothing)
    else if nat_lt status 300 then (Confirmed None, TellAndAcknowledge) else if status == 491
    then (Confirmed (Some (later now pause)), Nothing) else if status == 408 || status == 481
    then (ending now, TellAndSendBye) else (Confirmed None, TellRefused status)

-- Inviting: our INVITE is under way, and theirs gets 491 (14.2).
abbrev pub inviting_row : ℕ → SessionEvent → Session × SessionAction
inviting_row now (Answered status pause) = answered_row now status pause
inviting_row now HangUp = (ending now, SendBye)
inviting_row now InviteCame = (Inviting, Refuse 491)
inviting_row now ByeCame = (Ended, AnswerBye)
inviting_row now other = other_row Inviting other

-- the user answers their INVITE
abbrev pub answer_row : Option ℕ → ℕ → ℕ → Session × SessionAction
answer_row reinvite now status =
    if nat_lt status 200 then (Invited reinvite, SendAnswer) else if nat_lt status 300
    then (accepted now (next_of reinvite), SendAnswer) else (Confirmed reinvite, SendAnswer)

-- Invited: their INVITE is under way; ours waits (14.1), and another of theirs gets 500 (14.2). With the session ends their INVITE, by 487 (15.1.2).
abbrev pub invited_row : Option ℕ → ℕ → SessionEvent → Session × SessionAction
invited_row reinvite now (Answer status) = answer_row reinvite now status
invited_row reinvite now Reinvite = (Invited (Some (unwrap_or reinvite now)), Nothing)
invited_row reinvite now HangUp = (ending now, SendByeAndRefuse)
invited_row reinvite now InviteCame = (Invited reinvite, Refuse 500)
invited_row reinvite now ByeCame = (Ended, AnswerByeAndRefuse)
invited_row reinvite now other = other_row (Invited reinvite) other

-- Ending: our BYE was sent.
abbrev pub ending_row : ℕ → SessionEvent → Session × SessionAction
ending_row until ByeAnswered = (Ended, Nothing)
ending_row until ByeCame = (Ended, AnswerBye)
ending_row until InviteCame = (Ending until, Refuse 481)
ending_row until other = other_row (Ending until) other

-- Ended: what is asked has no session any more (12.2.2).
abbrev pub ended_row : SessionEvent → Session × SessionAction
ended_row ByeCame = (Ended, Refuse 481)
ended_row InviteCame = (Ended, Refuse 481)
ended_row other = other_row Ended other

-- What happens at a moment: the next state, and what is to be done. What is due comes first: no ACK came for 64 T1, and the session ends by BYE (13.3.1.4); the BYE was
-- sent 64 T1 ago.
abbrev pub row : Session → ℕ → SessionEvent → Session × SessionAction
row (Confirmed reinvite) now event = confirmed_row reinvite now event
row (Accepted again pause until next) now event = if nat_le until now
    then (ending until, TellAndSendBye) else accepted_row again pause until next now event
row Inviting now event = inviting_row now event
row (Invited reinvite) now event = invited_row reinvite now event
row (Ending until) now event = if nat_le until now then (Ended, Nothing) else ending_row until event
row Ended now event = ended_row event

-- the moment from which something is due although nothing else happens
abbrev pub next_due : Session → Option ℕ
next_due (Confirmed reinvite) = reinvite
next_due (Accepted again pause until next) = Some (min again until)
next_due Inviting = None
next_due (Invited reinvite) = None
next_due (Ending until) = Some until
next_due Ended = None
