-- What holds of a session, whatever happens at whatever moments.
use Rattle.std.specs.Prelude.{◌≡◌, ℕ, ◌+◌, ◌≤◌, ◌<◌, ◌&&◌, ◌||◌, not, nat_le, min, Bool, true, false, List, [], ◌∷◌, Some}
use Rattle.fax_dialogs.specs.declared.role.Role.TheVariants.{Caller, Answerer}
use Rattle.fax_dialogs.specs.declared.session.Next.{Next}
use Rattle.fax_dialogs.specs.declared.session.Next.TheVariants.{Stay}
use Rattle.fax_dialogs.specs.declared.session.Session.{Session}
use Rattle.fax_dialogs.specs.declared.session.Session.TheVariants.{Confirmed, Accepted, Inviting, Invited, Ending, Ended}
use Rattle.fax_dialogs.specs.declared.session_action.SessionAction.{SessionAction}
use Rattle.fax_dialogs.specs.declared.session_action.SessionAction.TheVariants.{Nothing, SendInvite, SendAnswer, SendAgain, TellInvite, Refuse, Acknowledge, TellAndAcknowledge, TellRefused, SendBye, TellAndSendBye, SendByeAndRefuse, AnswerBye, AnswerByeAndRefuse}
use Rattle.fax_dialogs.specs.declared.session_event.SessionEvent.{SessionEvent}
use Rattle.fax_dialogs.specs.declared.session_event.SessionEvent.TheVariants.{TimePassed, Reinvite, Answer, HangUp, InviteCame, AckCame, ByeCame, Answered, AnsweredAgain, ByeAnswered}
use Rattle.fax_dialogs.specs.Sessions.{accepted, glare_pause, is_success, next_due, row}
use Rattle.fax_transactions.specs.Runs.{actions_of, count_of, state_after}
use Rattle.fax_transactions.specs.Spans.{t1, t2, timeout}

-- ---- the end

-- a BYE was sent, or theirs came
abbrev pub IsOver : Session → Type 0
IsOver (Confirmed reinvite) = ⊥
IsOver (Accepted again pause until next) = ⊥
IsOver Inviting = ⊥
IsOver (Invited reinvite) = ⊥
IsOver (Ending until) = Unit {0}
IsOver Ended = Unit {0}

-- more is done than to answer what comes
abbrev pub is_new : SessionAction → Bool
is_new Nothing = false
is_new Acknowledge = false
is_new (Refuse status) = false
is_new AnswerBye = false
is_new other = true

abbrev pub sends_bye : SessionAction → Bool
sends_bye SendBye = true
sends_bye TellAndSendBye = true
sends_bye SendByeAndRefuse = true
sends_bye other = false

-- After the end nothing is sent but answers to what comes, whatever happens.
-- Ruled out: a re-INVITE that waited and goes out after the BYE; a 2xx that is sent again after their BYE; a second BYE.
abbrev pub EndIsSilent : Type 0
EndIsSilent = (state : Session) (happened : List (ℕ × SessionEvent))
    → IsOver state → count_of is_new (actions_of row state happened) ≡ 0

-- One BYE is sent at most.
-- Ruled out: a BYE for each refusal; a BYE after theirs; one more when no ACK comes after the user ended it.
abbrev pub ByeIsSentOnce : Type 0
ByeIsSentOnce = (state : Session) (happened : List (ℕ × SessionEvent))
    → count_of sends_bye (actions_of row state happened) ≤ 1

-- nothing happened after a moment
abbrev pub AllUpTo : ℕ → List (ℕ × SessionEvent) → Type 0
AllUpTo told [] = Unit {0}
AllUpTo told (happening ∷ happened) = (happening.0 ≤ told) × AllUpTo told happened

-- Once the user ended it, 64 T1 for the ACK and 64 T1 for the BYE later two more happenings leave nothing on.
abbrev pub EndsFrom : Session → ℕ → Type 0
EndsFrom begun told =
    (before after : List (ℕ × SessionEvent)) (first second : ℕ) (one other : SessionEvent)
    → AllUpTo told before → told + 64000 ≤ first → told + 64000 ≤ second
    → (row (row (state_after row (row (state_after row begun before) told HangUp).0 after)
    first one).0 second other).0 ≡ Ended

-- It ends by a bound.
-- Ruled out: a 2xx whose repeats begin anew with each thing that comes; a wish for a re-INVITE that takes the end's place; a BYE whose bound begins anew.
abbrev pub SessionEnds : Type 0
SessionEnds = (told : ℕ)
    → EndsFrom Inviting told × ((sent : ℕ) → sent ≤ told → EndsFrom (accepted sent Stay) told)

-- ---- our 2xx, and its ACK

-- one of three, as an answer is sent, is sent again, or neither
abbrev pub Sent : SessionAction → Type 0 → Type 0 → Type 0 → Type 0
Sent SendAnswer first again other = first
Sent SendAgain first again other = again
Sent action first again other = other

-- each sending again comes a pause after the one before, and less than 64 T1 after the answer; the pauses begin with T1 and double up to T2
abbrev pub RepeatsInTime : ℕ → ℕ → ℕ → List (ℕ × SessionAction) → Type 0
RepeatsInTime sent last pause [] = Unit {0}
RepeatsInTime sent last pause (entry ∷ done) =
    Sent entry.1 (RepeatsInTime entry.0 entry.0 t1 done) ((last + pause ≤ entry.0)
    × (entry.0 < sent + timeout)
    × RepeatsInTime sent entry.0 (min (pause + pause) t2) done) (RepeatsInTime sent last pause done)

-- A 2xx is sent again in time, and no longer than 64 T1.
-- Ruled out: a pause that stays T1 or grows past T2; a repeat after Timer H's time; a bound that begins anew at each repeat.
abbrev pub AnswersRepeatInTime : Type 0
AnswersRepeatInTime = (sent : ℕ) (happened : List (ℕ × SessionEvent))
    → RepeatsInTime sent sent t1 (actions_of row (accepted sent Stay) happened)
    × RepeatsInTime sent sent t1 (actions_of row Inviting happened)

-- It is sent again when that is due.
abbrev pub RepeatsAreSent : Type 0
RepeatsAreSent = (again pause until now : ℕ) (next : Next) → again ≤ now
    → now < until → (row (Accepted again pause until next) now TimePassed).1 ≡ SendAgain

-- it is no answer of the user
abbrev pub is_no_answer : SessionEvent → Bool
is_no_answer (Answer status) = false
is_no_answer other = true

abbrev pub NoneAnswers : List (ℕ × SessionEvent) → Type 0
NoneAnswers [] = Unit {0}
NoneAnswers (happening ∷ happened) = (is_no_answer happening.1 ≡ true) × NoneAnswers happened

abbrev pub is_again : SessionAction → Bool
is_again SendAgain = true
is_again other = false

-- After its ACK it is not sent again, whatever happens before the user answers another INVITE.
-- Ruled out: a repeat that is due and comes all the same; an ACK that only puts it off.
abbrev pub AckStopsRepeats : Type 0
AckStopsRepeats = (again pause until now : ℕ) (next : Next) (happened : List (ℕ × SessionEvent))
    → now < until → NoneAnswers happened → count_of
    is_again (actions_of row (row (Accepted again pause until next) now AckCame).0 happened) ≡ 0

-- nothing is due at a moment that comes before what comes
abbrev pub IsOn : Session → ℕ → Type 0
IsOn (Confirmed reinvite) now = Unit {0}
IsOn (Accepted again pause until next) now = now < until
IsOn Inviting now = Unit {0}
IsOn (Invited reinvite) now = Unit {0}
IsOn (Ending until) now = now < until
IsOn Ended now = Unit {0}

abbrev pub acknowledges : SessionAction → Bool
acknowledges Acknowledge = true
acknowledges TellAndAcknowledge = true
acknowledges other = false

-- Each 2xx to an INVITE of ours gets its ACK, and each repeat.
-- Ruled out: an ACK for the first alone; none for a 2xx that comes after our BYE; none after the end.
abbrev pub SuccessesAreAcknowledged : Type 0
SuccessesAreAcknowledged = (state : Session) (now status pause : ℕ) → IsOn state now
    → (is_success status ≡ true → acknowledges (row state now (Answered status pause)).1 ≡ true)
    × (acknowledges (row state now AnsweredAgain).1 ≡ true)

-- ---- two INVITEs

abbrev pub sends_invite : SessionAction → Bool
sends_invite SendInvite = true
sends_invite other = false

-- an INVITE of ours has its final answer
abbrev pub is_final : SessionEvent → Bool
is_final (Answered status pause) = nat_le 200 status
is_final other = false

-- our INVITE is under way after what happened: it was sent, and no final answer came
abbrev pub ours_after : Bool → Session → List (ℕ × SessionEvent) → Bool
ours_after ours state [] = ours
ours_after ours state (happening ∷ happened) =
    ours_after (sends_invite (row state happening.0 happening.1).1
    || (ours && not (is_final happening.1))) (row state happening.0 happening.1).0 happened

-- their INVITE is under way after what happened: the user was told of it, and sent no final answer
abbrev pub tells_invite : SessionAction → Bool
tells_invite TellInvite = true
tells_invite other = false

abbrev pub is_final_answer : SessionEvent → Bool
is_final_answer (Answer status) = nat_le 200 status
is_final_answer other = false

abbrev pub theirs_after : Bool → Session → List (ℕ × SessionEvent) → Bool
theirs_after theirs state [] = theirs
theirs_after theirs state (happening ∷ happened) =
    theirs_after (tells_invite (row state happening.0 happening.1).1
    || (theirs && not (is_final_answer happening.1))) (row state happening.0 happening.1).0 happened

-- No answer of the user to their INVITE is sent while ours is under way.
-- Ruled out: 200 to theirs while ours is pending (glare); a wish that sends ours between a provisional answer and a final one.
abbrev pub TheirsWaitForOurs : Type 0
TheirsWaitForOurs = (sent now status : ℕ) (happened : List (ℕ × SessionEvent))
    → ((row (state_after row Inviting happened) now (Answer status)).1 ≡ SendAnswer
    → ours_after true Inviting happened ≡ false)
    × ((row (state_after row (accepted sent Stay) happened) now (Answer status)).1 ≡ SendAnswer
    → ours_after false (accepted sent Stay) happened ≡ false)

-- Ours is not sent while theirs is under way, or another of ours.
-- Ruled out: a re-INVITE at once where the user wants it during theirs; one more while one is pending; one before the ACK of our 2xx.
abbrev pub OursWaitForTheirs : Type 0
OursWaitForTheirs = (sent now : ℕ) (event : SessionEvent) (happened : List (ℕ × SessionEvent))
    → ((row (state_after row Inviting happened) now event).1 ≡ SendInvite
    → (theirs_after false Inviting happened ≡ false) × (ours_after true Inviting happened ≡ false))
    × ((row (state_after row (accepted sent Stay) happened) now event).1 ≡ SendInvite
    → (theirs_after false (accepted sent Stay) happened ≡ false)
    × (ours_after false (accepted sent Stay) happened ≡ false))

-- After 491 at both ends the pauses differ: who made the Call-ID waits longer (14.1).
abbrev pub GlareIsResolved : Type 0
GlareIsResolved = (one other : ℕ) → (glare_pause Answerer one ≤ 2000)
    × (2100 ≤ glare_pause Caller other) × (glare_pause Caller other ≤ 4000)

-- ---- rest

-- Before what is due next, time changes nothing.
-- Ruled out: a re-INVITE that is sent before its pause is over; a 2xx a millisecond early; an end before the BYE's time.
abbrev pub SessionRests : Type 0
SessionRests = (state : Session) (now due : ℕ)
    → next_due state ≡ Some due → now < due → row state now TimePassed ≡ (state, Nothing)
