-- Our 2xx and its ACK, INVITEs of both ends, and rest, step by step.
use Rattle.std.proofs.Common.{◌≡◌, ℕ, ◌+◌, ◌*◌, ◌%◌, ◌≤◌, ◌<◌, ◌&&◌, ◌||◌, ◌==◌, not, min, Bool, true, false, nat_le, nat_lt, Option, None, Some, List, [], ◌∷◌, refl, arith}
use Rattle.std.proofs.lemmas.Bool.Decides.{nat_tests}
use Rattle.fax_dialogs.specs.declared.role.Role.TheVariants.{Caller, Answerer}
use Rattle.fax_dialogs.specs.declared.session.Next.{Next}
use Rattle.fax_dialogs.specs.declared.session.Next.TheVariants.{Stay, Again, Bye}
use Rattle.fax_dialogs.specs.declared.session.Session.{Session}
use Rattle.fax_dialogs.specs.declared.session.Session.TheVariants.{Confirmed, Accepted, Inviting, Invited, Ending, Ended}
use Rattle.fax_dialogs.specs.declared.session_action.SessionAction.{SessionAction}
use Rattle.fax_dialogs.specs.declared.session_action.SessionAction.TheVariants.{Nothing, SendInvite, SendAnswer, SendAgain, TellInvite, Refuse, Acknowledge, TellAndAcknowledge, TellRefused, SendBye, TellAndSendBye, SendByeAndRefuse, AnswerBye, AnswerByeAndRefuse}
use Rattle.fax_dialogs.specs.declared.session_event.SessionEvent.{SessionEvent}
use Rattle.fax_dialogs.specs.declared.session_event.SessionEvent.TheVariants.{TimePassed, Reinvite, Answer, HangUp, InviteCame, AckCame, ByeCame, Answered, AnsweredAgain, ByeAnswered}
use Rattle.fax_dialogs.specs.SessionLaws.{acknowledges, is_again, is_final, is_final_answer, is_no_answer, ours_after, sends_invite, tells_invite, theirs_after, AckStopsRepeats, AnswersRepeatInTime, GlareIsResolved, IsOn, NoneAnswers, OursWaitForTheirs, RepeatsAreSent, RepeatsInTime, Sent, SessionRests, SuccessesAreAcknowledged, TheirsWaitForOurs}
use Rattle.fax_dialogs.specs.Sessions.{accepted, accepted_row, acknowledged, answer_row, answered_row, confirmed_row, ended_row, ending, ending_row, glare_pause, invited_row, inviting_row, is_success, next_due, next_of, next_with, other_row, row, sent_or_waiting, wished}
use Rattle.fax_transactions.specs.Runs.{actions_of, count_of, state_after}
use Rattle.fax_transactions.specs.Spans.{t1, t2, timeout, later, longer}
use Rattle.fax_transactions.proofs.RunProofs.{above, chosen, le_false, le_off, le_true, lt_false, lt_off, lt_true}
use Rattle.fax_dialogs.proofs.SessionEndProofs.{answer_has, answered_has, other_has, Where}

-- ---- a 2xx is sent again in time

-- when it was sent first and last, and the pause since
abbrev pub Timely : ℕ → ℕ → ℕ → Session → Type 0
Timely sent last pause (Confirmed reinvite) = Unit {0}
Timely sent last pause (Accepted again long until next) = (long ≡ pause) × (again ≡ later last pause) × (until ≡ later sent timeout)
Timely sent last pause Inviting = Unit {0}
Timely sent last pause (Invited reinvite) = Unit {0}
Timely sent last pause (Ending until) = Unit {0}
Timely sent last pause Ended = Unit {0}

abbrev pub Step : ℕ → ℕ → ℕ → ℕ → Session × SessionAction → Type 0
Step sent last pause now r =
    Sent r.1 (Timely now now t1 r.0) ((last + pause ≤ now) × (now < sent + timeout) × Timely sent now (min (pause + pause) t2) r.0) (Timely sent last pause r.0)

pub sent_on : (action : SessionAction) (A B C D E F : Type 0) → (A → D) → (B → E) → (C → F) → Sent action A B C → Sent action D E F
sent_on SendAnswer A B C D E F f g h x = f x
sent_on SendAgain A B C D E F f g h x = g x
sent_on other A B C D E F f g h x = h x

pub wished_step : (sent last pause : ℕ) (reinvite : Option ℕ) (now : ℕ) → Step sent last pause now (wished reinvite now)
wished_step sent last pause None now = tt
wished_step sent last pause (Some at) now =
    chosen (Step sent last pause now) (nat_lt now at) (Confirmed (Some at), Nothing) (Inviting, SendInvite) (λ _. tt) (λ _. tt)

pub sent_step : (sent last pause : ℕ) (reinvite : Option ℕ) (now : ℕ) → Step sent last pause now (sent_or_waiting reinvite)
sent_step sent last pause None now = tt
sent_step sent last pause (Some at) now = tt

pub confirmed_step : (sent last pause : ℕ) (reinvite : Option ℕ) (now : ℕ) (event : SessionEvent) → Step sent last pause now (confirmed_row reinvite now event)
confirmed_step sent last pause reinvite now TimePassed = wished_step sent last pause reinvite now
confirmed_step sent last pause reinvite now Reinvite = sent_step sent last pause reinvite now
confirmed_step sent last pause reinvite now HangUp = tt
confirmed_step sent last pause reinvite now InviteCame = tt
confirmed_step sent last pause reinvite now ByeCame = tt
confirmed_step sent last pause reinvite now other = other_has (Step sent last pause now) (Confirmed reinvite) other tt tt

pub acknowledged_step : (sent last pause : ℕ) (next : Next) (now : ℕ) → Step sent last pause now (acknowledged next now)
acknowledged_step sent last pause Stay now = tt
acknowledged_step sent last pause (Again at) now = tt
acknowledged_step sent last pause Bye now = tt

-- a repeat is due: it comes in time, and the next is due after a longer pause
pub due_again :
    (sent last pause again long until now : ℕ) → long ≡ pause → again ≡ later last pause → until ≡ later sent timeout → again ≤ now → now < until
    → (last + pause ≤ now) × (now < sent + timeout) × (longer long ≡ min (pause + pause) t2) × (later now (longer long) ≡ later now (min (pause + pause) t2))
due_again sent last pause again long until now e f g due early =
    let same : longer long ≡ min (pause + pause) t2 = omega arith in (omega arith, omega arith, same, rw same refl)

pub accepted_step :
    (sent last pause again long until : ℕ) (next : Next) (now : ℕ) (event : SessionEvent)
    → Timely sent last pause (Accepted again long until next) → now < until → Step sent last pause now (accepted_row again long until next now event)
accepted_step sent last pause again long until next now TimePassed timely early =
    chosen (Step sent last pause now) (nat_lt now again) (Accepted again long until next, Nothing) (Accepted (later now (longer long)) (longer long) until next, SendAgain)
    (λ _. timely)
    (λ e. let due : (last + pause ≤ now) × (now < sent + timeout) × (longer long ≡ min (pause + pause) t2) × (later now (longer long) ≡ later now (min (pause + pause) t2)) =
    due_again sent last pause again long until now timely.0 timely.1 timely.2 (lt_false now again e) early in
    (due.0, due.1, (due.2, due.3, timely.2)))
accepted_step sent last pause again long until next now Reinvite timely early = timely
accepted_step sent last pause again long until next now HangUp timely early = timely
accepted_step sent last pause again long until next now InviteCame timely early = timely
accepted_step sent last pause again long until next now AckCame timely early = acknowledged_step sent last pause next now
accepted_step sent last pause again long until next now ByeCame timely early = tt
accepted_step sent last pause again long until next now other timely early =
    other_has (Step sent last pause now) (Accepted again long until next) other timely timely

pub inviting_step : (sent last pause now : ℕ) (event : SessionEvent) → Step sent last pause now (inviting_row now event)
inviting_step sent last pause now (Answered status span) = answered_has (Step sent last pause now) now status span (λ _. tt) tt tt tt tt
inviting_step sent last pause now HangUp = tt
inviting_step sent last pause now InviteCame = tt
inviting_step sent last pause now ByeCame = tt
inviting_step sent last pause now other = other_has (Step sent last pause now) Inviting other tt tt

pub invited_step : (sent last pause : ℕ) (reinvite : Option ℕ) (now : ℕ) (event : SessionEvent) → Step sent last pause now (invited_row reinvite now event)
invited_step sent last pause reinvite now (Answer status) =
    answer_has (Step sent last pause now) reinvite now status (λ _. tt) (λ _. (refl, refl, refl)) (λ _. tt)
invited_step sent last pause reinvite now Reinvite = tt
invited_step sent last pause reinvite now HangUp = tt
invited_step sent last pause reinvite now InviteCame = tt
invited_step sent last pause reinvite now ByeCame = tt
invited_step sent last pause reinvite now other = other_has (Step sent last pause now) (Invited reinvite) other tt tt

pub ending_step : (sent last pause now until : ℕ) (event : SessionEvent) → Step sent last pause now (ending_row until event)
ending_step sent last pause now until ByeAnswered = tt
ending_step sent last pause now until ByeCame = tt
ending_step sent last pause now until InviteCame = tt
ending_step sent last pause now until other = other_has (Step sent last pause now) (Ending until) other tt tt

pub ended_step : (sent last pause now : ℕ) (event : SessionEvent) → Step sent last pause now (ended_row event)
ended_step sent last pause now ByeCame = tt
ended_step sent last pause now InviteCame = tt
ended_step sent last pause now other = other_has (Step sent last pause now) Ended other tt tt

pub row_step : (sent last pause : ℕ) (state : Session) (now : ℕ) (event : SessionEvent) → Timely sent last pause state → Step sent last pause now (row state now event)
row_step sent last pause (Confirmed reinvite) now event timely = confirmed_step sent last pause reinvite now event
row_step sent last pause (Accepted again long until next) now event timely =
    chosen (Step sent last pause now) (nat_le until now) (ending until, TellAndSendBye) _ (λ _. tt)
    (λ e. accepted_step sent last pause again long until next now event timely (le_false until now e))
row_step sent last pause Inviting now event timely = inviting_step sent last pause now event
row_step sent last pause (Invited reinvite) now event timely = invited_step sent last pause reinvite now event
row_step sent last pause (Ending until) now event timely =
    chosen (Step sent last pause now) (nat_le until now) (Ended, Nothing) _ (λ _. tt) (λ _. ending_step sent last pause now until event)
row_step sent last pause Ended now event timely = ended_step sent last pause now event

pub run_in_time :
    (sent last pause : ℕ) (state : Session) (happened : List (ℕ × SessionEvent)) → Timely sent last pause state → RepeatsInTime sent last pause (actions_of row state happened)
run_in_time sent last pause state [] timely = tt
run_in_time sent last pause state (happening ∷ happened) timely =
    let next : Session × SessionAction = row state happening.0 happening.1 in
    let now : ℕ = happening.0 in
    sent_on next.1 (Timely now now t1 next.0) ((last + pause ≤ now) × (now < sent + timeout) × Timely sent now (min (pause + pause) t2) next.0) (Timely sent last pause next.0)
    (RepeatsInTime now now t1 (actions_of row next.0 happened))
    ((last + pause ≤ now) × (now < sent + timeout) × RepeatsInTime sent now (min (pause + pause) t2) (actions_of row next.0 happened))
    (RepeatsInTime sent last pause (actions_of row next.0 happened))
    (λ on. run_in_time now now t1 next.0 happened on)
    (λ on. (on.0, on.1, run_in_time sent now (min (pause + pause) t2) next.0 happened on.2))
    (λ on. run_in_time sent last pause next.0 happened on)
    (row_step sent last pause state happening.0 happening.1 timely)

pub answers_repeat_in_time : AnswersRepeatInTime
answers_repeat_in_time sent happened = (run_in_time sent sent t1 (accepted sent Stay) happened (refl, refl, refl), run_in_time sent sent t1 Inviting happened tt)

pub repeats_are_sent : RepeatsAreSent
repeats_are_sent again pause until now next due early =
    let on : nat_le until now ≡ false = le_off until now early in
    let is_due : nat_lt now again ≡ false = lt_off now again due in rw (on, is_due) refl

-- ---- the ACK stops it

abbrev pub IsNotAccepted : Session → Type 0
IsNotAccepted (Confirmed reinvite) = Unit {0}
IsNotAccepted (Accepted again pause until next) = ⊥
IsNotAccepted Inviting = Unit {0}
IsNotAccepted (Invited reinvite) = Unit {0}
IsNotAccepted (Ending until) = Unit {0}
IsNotAccepted Ended = Unit {0}

abbrev pub Quiet : Session × SessionAction → Type 0
Quiet r = (is_again r.1 ≡ false) × IsNotAccepted r.0

pub wished_quiet : (reinvite : Option ℕ) (now : ℕ) → Quiet (wished reinvite now)
wished_quiet None now = (refl, tt)
wished_quiet (Some at) now = chosen Quiet (nat_lt now at) (Confirmed (Some at), Nothing) (Inviting, SendInvite) (λ _. (refl, tt)) (λ _. (refl, tt))

pub sent_quiet : (reinvite : Option ℕ) → Quiet (sent_or_waiting reinvite)
sent_quiet None = (refl, tt)
sent_quiet (Some at) = (refl, tt)

pub confirmed_quiet : (reinvite : Option ℕ) (now : ℕ) (event : SessionEvent) → Quiet (confirmed_row reinvite now event)
confirmed_quiet reinvite now TimePassed = wished_quiet reinvite now
confirmed_quiet reinvite now Reinvite = sent_quiet reinvite
confirmed_quiet reinvite now HangUp = (refl, tt)
confirmed_quiet reinvite now InviteCame = (refl, tt)
confirmed_quiet reinvite now ByeCame = (refl, tt)
confirmed_quiet reinvite now other = other_has Quiet (Confirmed reinvite) other (refl, tt) (refl, tt)

pub acknowledged_quiet : (next : Next) (now : ℕ) → Quiet (acknowledged next now)
acknowledged_quiet Stay now = (refl, tt)
acknowledged_quiet (Again at) now = (refl, tt)
acknowledged_quiet Bye now = (refl, tt)

pub inviting_quiet : (now : ℕ) (event : SessionEvent) → Quiet (inviting_row now event)
inviting_quiet now (Answered status pause) = answered_has Quiet now status pause (λ _. (refl, tt)) (refl, tt) (refl, tt) (refl, tt) (refl, tt)
inviting_quiet now HangUp = (refl, tt)
inviting_quiet now InviteCame = (refl, tt)
inviting_quiet now ByeCame = (refl, tt)
inviting_quiet now other = other_has Quiet Inviting other (refl, tt) (refl, tt)

pub invited_quiet : (reinvite : Option ℕ) (now : ℕ) (event : SessionEvent) → is_no_answer event ≡ true → Quiet (invited_row reinvite now event)
invited_quiet reinvite now (Answer status) none = cc
invited_quiet reinvite now Reinvite none = (refl, tt)
invited_quiet reinvite now HangUp none = (refl, tt)
invited_quiet reinvite now InviteCame none = (refl, tt)
invited_quiet reinvite now ByeCame none = (refl, tt)
invited_quiet reinvite now other none = other_has Quiet (Invited reinvite) other (refl, tt) (refl, tt)

pub ending_quiet : (until : ℕ) (event : SessionEvent) → Quiet (ending_row until event)
ending_quiet until ByeAnswered = (refl, tt)
ending_quiet until ByeCame = (refl, tt)
ending_quiet until InviteCame = (refl, tt)
ending_quiet until other = other_has Quiet (Ending until) other (refl, tt) (refl, tt)

pub ended_quiet : (event : SessionEvent) → Quiet (ended_row event)
ended_quiet ByeCame = (refl, tt)
ended_quiet InviteCame = (refl, tt)
ended_quiet other = other_has Quiet Ended other (refl, tt) (refl, tt)

pub row_quiet : (state : Session) (now : ℕ) (event : SessionEvent) → IsNotAccepted state → is_no_answer event ≡ true → Quiet (row state now event)
row_quiet (Confirmed reinvite) now event quiet none = confirmed_quiet reinvite now event
row_quiet (Accepted again pause until next) now event quiet none = absurd quiet
row_quiet Inviting now event quiet none = inviting_quiet now event
row_quiet (Invited reinvite) now event quiet none = invited_quiet reinvite now event none
row_quiet (Ending until) now event quiet none = chosen Quiet (nat_le until now) (Ended, Nothing) _ (λ _. (refl, tt)) (λ _. ending_quiet until event)
row_quiet Ended now event quiet none = ended_quiet event

pub run_quiet : (state : Session) (happened : List (ℕ × SessionEvent)) → IsNotAccepted state → NoneAnswers happened → count_of is_again (actions_of row state happened) ≡ 0
run_quiet state [] quiet none = refl
run_quiet state (happening ∷ happened) quiet none =
    let step : Quiet (row state happening.0 happening.1) = row_quiet state happening.0 happening.1 quiet none.0 in
    rw (step.0, run_quiet (row state happening.0 happening.1).0 happened step.1 none.1) refl

pub ack_stops_repeats : AckStopsRepeats
ack_stops_repeats again pause until now next happened early none =
    let on : nat_le until now ≡ false = le_off until now early in
    rw on (run_quiet (acknowledged next now).0 happened (acknowledged_quiet next now).1 none)

-- ---- each 2xx gets its ACK

pub success_low : (status : ℕ) → is_success status ≡ true → nat_lt status 200 ≡ false
success_low status e = grind (arith, nat_tests)

pub success_high : (status : ℕ) → is_success status ≡ true → nat_lt status 300 ≡ true
success_high status e = grind (arith, nat_tests)

pub successes_are_acknowledged : SuccessesAreAcknowledged
successes_are_acknowledged (Confirmed reinvite) now status pause on = (λ e. rw e refl, refl)
successes_are_acknowledged (Accepted again wait until next) now status pause on =
    let still : nat_le until now ≡ false = le_off until now on in (λ e. rw (still, e) refl, rw still refl)
successes_are_acknowledged Inviting now status pause on = (λ e. rw (success_low status e, success_high status e) refl, refl)
successes_are_acknowledged (Invited reinvite) now status pause on = (λ e. rw e refl, refl)
successes_are_acknowledged (Ending until) now status pause on = let still : nat_le until now ≡ false = le_off until now on in (λ e. rw (still, e) refl, rw still refl)
successes_are_acknowledged Ended now status pause on = (λ e. rw e refl, refl)

-- ---- two INVITEs

pub where_any : (b : Bool) (P : Type 0) → P → Where b P
where_any true P p = p
where_any false P p = tt

-- ours is under way in these states alone
abbrev pub MayBeOurs : Session → Type 0
MayBeOurs (Confirmed reinvite) = ⊥
MayBeOurs (Accepted again pause until next) = ⊥
MayBeOurs Inviting = Unit {0}
MayBeOurs (Invited reinvite) = ⊥
MayBeOurs (Ending until) = Unit {0}
MayBeOurs Ended = Unit {0}

abbrev pub Ours : Bool → SessionEvent → Session × SessionAction → Type 0
Ours ours event r = Where (sends_invite r.1 || (ours && not (is_final event))) (MayBeOurs r.0)

pub wished_ours : (reinvite : Option ℕ) (now : ℕ) → Ours false TimePassed (wished reinvite now)
wished_ours None now = tt
wished_ours (Some at) now = chosen (Ours false TimePassed) (nat_lt now at) (Confirmed (Some at), Nothing) (Inviting, SendInvite) (λ _. tt) (λ _. tt)

pub sent_ours : (reinvite : Option ℕ) → Ours false Reinvite (sent_or_waiting reinvite)
sent_ours None = tt
sent_ours (Some at) = tt

pub confirmed_ours : (reinvite : Option ℕ) (now : ℕ) (event : SessionEvent) → Ours false event (confirmed_row reinvite now event)
confirmed_ours reinvite now TimePassed = wished_ours reinvite now
confirmed_ours reinvite now Reinvite = sent_ours reinvite
confirmed_ours reinvite now HangUp = tt
confirmed_ours reinvite now InviteCame = tt
confirmed_ours reinvite now ByeCame = tt
confirmed_ours reinvite now other = other_has (Ours false other) (Confirmed reinvite) other tt tt

pub acknowledged_ours : (next : Next) (now : ℕ) → Ours false AckCame (acknowledged next now)
acknowledged_ours Stay now = tt
acknowledged_ours (Again at) now = tt
acknowledged_ours Bye now = tt

pub accepted_ours : (again pause until : ℕ) (next : Next) (now : ℕ) (event : SessionEvent) → Ours false event (accepted_row again pause until next now event)
accepted_ours again pause until next now TimePassed =
    chosen (Ours false TimePassed) (nat_lt now again) (Accepted again pause until next, Nothing) (Accepted (later now (longer pause)) (longer pause) until next, SendAgain)
    (λ _. tt) (λ _. tt)
accepted_ours again pause until next now Reinvite = tt
accepted_ours again pause until next now HangUp = tt
accepted_ours again pause until next now InviteCame = tt
accepted_ours again pause until next now AckCame = acknowledged_ours next now
accepted_ours again pause until next now ByeCame = tt
accepted_ours again pause until next now other = other_has (Ours false other) (Accepted again pause until next) other tt tt

-- a final answer leaves none of ours under way
pub none_left : (ours : Bool) (status pause : ℕ) (state : Session) → nat_le 200 status ≡ true → Where (ours && not (is_final (Answered status pause))) (MayBeOurs state)
none_left true status pause state e = rw e tt
none_left false status pause state e = tt

pub answered_ours : (ours : Bool) (now status pause : ℕ) → Ours ours (Answered status pause) (answered_row now status pause)
answered_ours ours now status pause =
    chosen (Ours ours (Answered status pause)) (nat_lt status 200) (Inviting, Nothing) _ (λ _. where_any (ours && not (is_final (Answered status pause))) (Unit {0}) tt)
    (λ low. let final : nat_le 200 status ≡ true = above status low in
    chosen (Ours ours (Answered status pause)) (nat_lt status 300) (Confirmed None, TellAndAcknowledge) _ (λ _. none_left ours status pause (Confirmed None) final)
    (λ _. chosen (Ours ours (Answered status pause)) (status == 491) (Confirmed (Some (later now pause)), Nothing) _
    (λ _. none_left ours status pause (Confirmed (Some (later now pause))) final)
    (λ _. chosen (Ours ours (Answered status pause)) (status == 408 || status == 481) (ending now, TellAndSendBye) (Confirmed None, TellRefused status)
    (λ _. none_left ours status pause (ending now) final) (λ _. none_left ours status pause (Confirmed None) final))))

pub inviting_ours : (ours : Bool) (now : ℕ) (event : SessionEvent) → Ours ours event (inviting_row now event)
inviting_ours ours now (Answered status pause) = answered_ours ours now status pause
inviting_ours ours now HangUp = where_any (ours && true) (Unit {0}) tt
inviting_ours ours now InviteCame = where_any (ours && true) (Unit {0}) tt
inviting_ours ours now ByeCame = where_any (ours && true) (Unit {0}) tt
inviting_ours ours now other = other_has (Ours ours other) Inviting other (where_any (ours && true) (Unit {0}) tt) (where_any (ours && true) (Unit {0}) tt)

pub invited_ours : (reinvite : Option ℕ) (now : ℕ) (event : SessionEvent) → Ours false event (invited_row reinvite now event)
invited_ours reinvite now (Answer status) = answer_has (Ours false (Answer status)) reinvite now status (λ _. tt) (λ _. tt) (λ _. tt)
invited_ours reinvite now Reinvite = tt
invited_ours reinvite now HangUp = tt
invited_ours reinvite now InviteCame = tt
invited_ours reinvite now ByeCame = tt
invited_ours reinvite now other = other_has (Ours false other) (Invited reinvite) other tt tt

pub ending_ours : (ours : Bool) (until : ℕ) (event : SessionEvent) → Ours ours event (ending_row until event)
ending_ours ours until ByeAnswered = where_any (ours && true) (Unit {0}) tt
ending_ours ours until ByeCame = where_any (ours && true) (Unit {0}) tt
ending_ours ours until InviteCame = where_any (ours && true) (Unit {0}) tt
ending_ours ours until other =
    other_has (Ours ours other) (Ending until) other (where_any (ours && not (is_final other)) (Unit {0}) tt) (where_any (ours && not (is_final other)) (Unit {0}) tt)

pub ended_ours : (ours : Bool) (event : SessionEvent) → Ours ours event (ended_row event)
ended_ours ours ByeCame = where_any (ours && true) (Unit {0}) tt
ended_ours ours InviteCame = where_any (ours && true) (Unit {0}) tt
ended_ours ours other = other_has (Ours ours other) Ended other (where_any (ours && not (is_final other)) (Unit {0}) tt) (where_any (ours && not (is_final other)) (Unit {0}) tt)

pub row_ours : (ours : Bool) (state : Session) (now : ℕ) (event : SessionEvent) → Where ours (MayBeOurs state) → Ours ours event (row state now event)
row_ours true (Confirmed reinvite) now event may = absurd may
row_ours false (Confirmed reinvite) now event may = confirmed_ours reinvite now event
row_ours true (Accepted again pause until next) now event may = absurd may
row_ours false (Accepted again pause until next) now event may =
    chosen (Ours false event) (nat_le until now) (ending until, TellAndSendBye) _ (λ _. tt) (λ _. accepted_ours again pause until next now event)
row_ours ours Inviting now event may = inviting_ours ours now event
row_ours true (Invited reinvite) now event may = absurd may
row_ours false (Invited reinvite) now event may = invited_ours reinvite now event
row_ours ours (Ending until) now event may =
    chosen (Ours ours event) (nat_le until now) (Ended, Nothing) _ (λ _. where_any (ours && not (is_final event)) (Unit {0}) tt) (λ _. ending_ours ours until event)
row_ours ours Ended now event may = ended_ours ours event

pub run_ours :
    (ours : Bool) (state : Session) (happened : List (ℕ × SessionEvent)) → Where ours (MayBeOurs state) → Where (ours_after ours state happened) (MayBeOurs (state_after row state happened))
run_ours ours state [] may = may
run_ours ours state (happening ∷ happened) may =
    run_ours (sends_invite (row state happening.0 happening.1).1 || (ours && not (is_final happening.1))) (row state happening.0 happening.1).0 happened
    (row_ours ours state happening.0 happening.1 may)

pub is_off : (b : Bool) → Where b ⊥ → b ≡ false
is_off true never = absurd never
is_off false never = refl

-- an answer of the user is sent in one state
pub answer_waits : (ours : Bool) (state : Session) (now status : ℕ) → Where ours (MayBeOurs state) → (row state now (Answer status)).1 ≡ SendAnswer → ours ≡ false
answer_waits ours (Confirmed reinvite) now status may sent = cc
answer_waits ours (Accepted again pause until next) now status may sent =
    chosen (λ (r : Session × SessionAction). r.1 ≡ SendAnswer → ours ≡ false) (nat_le until now) (ending until, TellAndSendBye) (Accepted again pause until next, Nothing)
    (λ _ done. cc) (λ _ done. cc) sent
answer_waits ours Inviting now status may sent = cc
answer_waits ours (Invited reinvite) now status may sent = is_off ours may
answer_waits ours (Ending until) now status may sent =
    chosen (λ (r : Session × SessionAction). r.1 ≡ SendAnswer → ours ≡ false) (nat_le until now) (Ended, Nothing) (Ending until, Nothing) (λ _ done. cc) (λ _ done. cc) sent
answer_waits ours Ended now status may sent = cc

pub theirs_wait_for_ours : TheirsWaitForOurs
theirs_wait_for_ours sent now status happened = (
  answer_waits (ours_after true Inviting happened) (state_after row Inviting happened) now status (run_ours true Inviting happened tt),
  answer_waits (ours_after false (accepted sent Stay) happened) (state_after row (accepted sent Stay) happened) now status (run_ours false (accepted sent Stay) happened tt),
)

-- theirs is under way in these states alone
abbrev pub MayBeTheirs : Session → Type 0
MayBeTheirs (Confirmed reinvite) = ⊥
MayBeTheirs (Accepted again pause until next) = ⊥
MayBeTheirs Inviting = ⊥
MayBeTheirs (Invited reinvite) = Unit {0}
MayBeTheirs (Ending until) = Unit {0}
MayBeTheirs Ended = Unit {0}

abbrev pub Theirs : Bool → SessionEvent → Session × SessionAction → Type 0
Theirs theirs event r = Where (tells_invite r.1 || (theirs && not (is_final_answer event))) (MayBeTheirs r.0)

pub wished_theirs : (reinvite : Option ℕ) (now : ℕ) → Theirs false TimePassed (wished reinvite now)
wished_theirs None now = tt
wished_theirs (Some at) now = chosen (Theirs false TimePassed) (nat_lt now at) (Confirmed (Some at), Nothing) (Inviting, SendInvite) (λ _. tt) (λ _. tt)

pub sent_theirs : (reinvite : Option ℕ) → Theirs false Reinvite (sent_or_waiting reinvite)
sent_theirs None = tt
sent_theirs (Some at) = tt

pub confirmed_theirs : (reinvite : Option ℕ) (now : ℕ) (event : SessionEvent) → Theirs false event (confirmed_row reinvite now event)
confirmed_theirs reinvite now TimePassed = wished_theirs reinvite now
confirmed_theirs reinvite now Reinvite = sent_theirs reinvite
confirmed_theirs reinvite now HangUp = tt
confirmed_theirs reinvite now InviteCame = tt
confirmed_theirs reinvite now ByeCame = tt
confirmed_theirs reinvite now other = other_has (Theirs false other) (Confirmed reinvite) other tt tt

pub acknowledged_theirs : (next : Next) (now : ℕ) → Theirs false AckCame (acknowledged next now)
acknowledged_theirs Stay now = tt
acknowledged_theirs (Again at) now = tt
acknowledged_theirs Bye now = tt

pub accepted_theirs : (again pause until : ℕ) (next : Next) (now : ℕ) (event : SessionEvent) → Theirs false event (accepted_row again pause until next now event)
accepted_theirs again pause until next now TimePassed =
    chosen (Theirs false TimePassed) (nat_lt now again) (Accepted again pause until next, Nothing) (Accepted (later now (longer pause)) (longer pause) until next, SendAgain)
    (λ _. tt) (λ _. tt)
accepted_theirs again pause until next now Reinvite = tt
accepted_theirs again pause until next now HangUp = tt
accepted_theirs again pause until next now InviteCame = tt
accepted_theirs again pause until next now AckCame = acknowledged_theirs next now
accepted_theirs again pause until next now ByeCame = tt
accepted_theirs again pause until next now other = other_has (Theirs false other) (Accepted again pause until next) other tt tt

pub inviting_theirs : (now : ℕ) (event : SessionEvent) → Theirs false event (inviting_row now event)
inviting_theirs now (Answered status pause) = answered_has (Theirs false (Answered status pause)) now status pause (λ _. tt) tt tt tt tt
inviting_theirs now HangUp = tt
inviting_theirs now InviteCame = tt
inviting_theirs now ByeCame = tt
inviting_theirs now other = other_has (Theirs false other) Inviting other tt tt

-- a final answer leaves none of theirs under way
pub none_of_theirs : (theirs : Bool) (status : ℕ) (state : Session) → nat_lt status 200 ≡ false → Where (theirs && not (is_final_answer (Answer status))) (MayBeTheirs state)
none_of_theirs true status state low = let final : nat_le 200 status ≡ true = above status low in rw final tt
none_of_theirs false status state low = tt

pub invited_theirs : (theirs : Bool) (reinvite : Option ℕ) (now : ℕ) (event : SessionEvent) → Theirs theirs event (invited_row reinvite now event)
invited_theirs theirs reinvite now (Answer status) =
    answer_has (Theirs theirs (Answer status)) reinvite now status (λ _. where_any (theirs && not (is_final_answer (Answer status))) (Unit {0}) tt)
    (none_of_theirs theirs status (accepted now (next_of reinvite))) (none_of_theirs theirs status (Confirmed reinvite))
invited_theirs theirs reinvite now Reinvite = where_any (theirs && true) (Unit {0}) tt
invited_theirs theirs reinvite now HangUp = where_any (theirs && true) (Unit {0}) tt
invited_theirs theirs reinvite now InviteCame = where_any (theirs && true) (Unit {0}) tt
invited_theirs theirs reinvite now ByeCame = where_any (theirs && true) (Unit {0}) tt
invited_theirs theirs reinvite now other = other_has (Theirs theirs other) (Invited reinvite) other (where_any (theirs && true) (Unit {0}) tt) (where_any (theirs && true) (Unit {0}) tt)

pub ending_theirs : (theirs : Bool) (until : ℕ) (event : SessionEvent) → Theirs theirs event (ending_row until event)
ending_theirs theirs until ByeAnswered = where_any (theirs && true) (Unit {0}) tt
ending_theirs theirs until ByeCame = where_any (theirs && true) (Unit {0}) tt
ending_theirs theirs until InviteCame = where_any (theirs && true) (Unit {0}) tt
ending_theirs theirs until other =
    other_has (Theirs theirs other) (Ending until) other (where_any (theirs && not (is_final_answer other)) (Unit {0}) tt) (where_any (theirs && not (is_final_answer other)) (Unit {0}) tt)

pub ended_theirs : (theirs : Bool) (event : SessionEvent) → Theirs theirs event (ended_row event)
ended_theirs theirs ByeCame = where_any (theirs && true) (Unit {0}) tt
ended_theirs theirs InviteCame = where_any (theirs && true) (Unit {0}) tt
ended_theirs theirs other =
    other_has (Theirs theirs other) Ended other (where_any (theirs && not (is_final_answer other)) (Unit {0}) tt) (where_any (theirs && not (is_final_answer other)) (Unit {0}) tt)

pub row_theirs : (theirs : Bool) (state : Session) (now : ℕ) (event : SessionEvent) → Where theirs (MayBeTheirs state) → Theirs theirs event (row state now event)
row_theirs true (Confirmed reinvite) now event may = absurd may
row_theirs false (Confirmed reinvite) now event may = confirmed_theirs reinvite now event
row_theirs true (Accepted again pause until next) now event may = absurd may
row_theirs false (Accepted again pause until next) now event may =
    chosen (Theirs false event) (nat_le until now) (ending until, TellAndSendBye) _ (λ _. tt) (λ _. accepted_theirs again pause until next now event)
row_theirs true Inviting now event may = absurd may
row_theirs false Inviting now event may = inviting_theirs now event
row_theirs theirs (Invited reinvite) now event may = invited_theirs theirs reinvite now event
row_theirs theirs (Ending until) now event may =
    chosen (Theirs theirs event) (nat_le until now) (Ended, Nothing) _ (λ _. where_any (theirs && not (is_final_answer event)) (Unit {0}) tt) (λ _. ending_theirs theirs until event)
row_theirs theirs Ended now event may = ended_theirs theirs event

pub run_theirs :
    (theirs : Bool) (state : Session) (happened : List (ℕ × SessionEvent)) → Where theirs (MayBeTheirs state)
    → Where (theirs_after theirs state happened) (MayBeTheirs (state_after row state happened))
run_theirs theirs state [] may = may
run_theirs theirs state (happening ∷ happened) may =
    run_theirs (tells_invite (row state happening.0 happening.1).1 || (theirs && not (is_final_answer happening.1))) (row state happening.0 happening.1).0 happened
    (row_theirs theirs state happening.0 happening.1 may)

-- our INVITE is sent in one state
abbrev pub IsConfirmed : Session → Type 0
IsConfirmed (Confirmed reinvite) = Unit {0}
IsConfirmed other = ⊥

-- it is not this action that is done
abbrev pub SendsNone : Session × SessionAction → Type 0
SendsNone r = sends_invite r.1 ≡ false

pub acknowledged_none : (next : Next) (now : ℕ) → SendsNone (acknowledged next now)
acknowledged_none Stay now = refl
acknowledged_none (Again at) now = refl
acknowledged_none Bye now = refl

pub accepted_none : (again pause until : ℕ) (next : Next) (now : ℕ) (event : SessionEvent) → SendsNone (accepted_row again pause until next now event)
accepted_none again pause until next now TimePassed =
    chosen SendsNone (nat_lt now again) (Accepted again pause until next, Nothing) (Accepted (later now (longer pause)) (longer pause) until next, SendAgain) (λ _. refl) (λ _. refl)
accepted_none again pause until next now Reinvite = refl
accepted_none again pause until next now HangUp = refl
accepted_none again pause until next now InviteCame = refl
accepted_none again pause until next now AckCame = acknowledged_none next now
accepted_none again pause until next now ByeCame = refl
accepted_none again pause until next now other = other_has SendsNone (Accepted again pause until next) other refl refl

pub inviting_none : (now : ℕ) (event : SessionEvent) → SendsNone (inviting_row now event)
inviting_none now (Answered status pause) = answered_has SendsNone now status pause (λ _. refl) refl refl refl refl
inviting_none now HangUp = refl
inviting_none now InviteCame = refl
inviting_none now ByeCame = refl
inviting_none now other = other_has SendsNone Inviting other refl refl

pub invited_none : (reinvite : Option ℕ) (now : ℕ) (event : SessionEvent) → SendsNone (invited_row reinvite now event)
invited_none reinvite now (Answer status) = answer_has SendsNone reinvite now status (λ _. refl) (λ _. refl) (λ _. refl)
invited_none reinvite now Reinvite = refl
invited_none reinvite now HangUp = refl
invited_none reinvite now InviteCame = refl
invited_none reinvite now ByeCame = refl
invited_none reinvite now other = other_has SendsNone (Invited reinvite) other refl refl

pub ending_none : (until : ℕ) (event : SessionEvent) → SendsNone (ending_row until event)
ending_none until ByeAnswered = refl
ending_none until ByeCame = refl
ending_none until InviteCame = refl
ending_none until other = other_has SendsNone (Ending until) other refl refl

pub ended_none : (event : SessionEvent) → SendsNone (ended_row event)
ended_none ByeCame = refl
ended_none InviteCame = refl
ended_none other = other_has SendsNone Ended other refl refl

pub differs : (action : SessionAction) (P : Type 0) → sends_invite action ≡ false → action ≡ SendInvite → P
differs action P none sent = cc

pub invite_waits : (state : Session) (now : ℕ) (event : SessionEvent) → (row state now event).1 ≡ SendInvite → IsConfirmed state
invite_waits (Confirmed reinvite) now event sent = tt
invite_waits (Accepted again pause until next) now event sent =
    differs (row (Accepted again pause until next) now event).1 ⊥
    (chosen SendsNone (nat_le until now) (ending until, TellAndSendBye) _ (λ _. refl) (λ _. accepted_none again pause until next now event)) sent
invite_waits Inviting now event sent = differs (inviting_row now event).1 ⊥ (inviting_none now event) sent
invite_waits (Invited reinvite) now event sent = differs (invited_row reinvite now event).1 ⊥ (invited_none reinvite now event) sent
invite_waits (Ending until) now event sent =
    differs (row (Ending until) now event).1 ⊥ (chosen SendsNone (nat_le until now) (Ended, Nothing) _ (λ _. refl) (λ _. ending_none until event)) sent
invite_waits Ended now event sent = differs (ended_row event).1 ⊥ (ended_none event) sent

pub none_theirs : (theirs : Bool) (state : Session) → IsConfirmed state → Where theirs (MayBeTheirs state) → theirs ≡ false
none_theirs theirs (Confirmed reinvite) confirmed may = is_off theirs may
none_theirs theirs other confirmed may = absurd confirmed

pub none_ours : (ours : Bool) (state : Session) → IsConfirmed state → Where ours (MayBeOurs state) → ours ≡ false
none_ours ours (Confirmed reinvite) confirmed may = is_off ours may
none_ours ours other confirmed may = absurd confirmed

pub ours_waits :
    (ours : Bool) (begun : Session) (now : ℕ) (event : SessionEvent) (happened : List (ℕ × SessionEvent)) → Where ours (MayBeOurs begun)
    → (row (state_after row begun happened) now event).1 ≡ SendInvite → (theirs_after false begun happened ≡ false) × (ours_after ours begun happened ≡ false)
ours_waits ours begun now event happened may sent =
    let confirmed : IsConfirmed (state_after row begun happened) = invite_waits (state_after row begun happened) now event sent in (
      none_theirs (theirs_after false begun happened) (state_after row begun happened) confirmed (run_theirs false begun happened tt),
      none_ours (ours_after ours begun happened) (state_after row begun happened) confirmed (run_ours ours begun happened may),
    )

pub ours_wait_for_theirs : OursWaitForTheirs
ours_wait_for_theirs sent now event happened = (ours_waits true Inviting now event happened tt, ours_waits false (accepted sent Stay) now event happened tt)

pub glare_is_resolved : GlareIsResolved
glare_is_resolved one other = (omega arith, omega arith, omega arith)

-- ---- rest

pub session_rests : SessionRests
session_rests (Confirmed None) now due e early = cc
session_rests (Confirmed (Some at)) now due e early =
    let same : at ≡ due = cc in let soon : nat_lt now at ≡ true = lt_true now at (omega arith) in rw soon refl
session_rests (Accepted again pause until next) now due e early =
    let at : min again until ≡ due = cc in
    let on : nat_le until now ≡ false = le_off until now (omega arith) in
    let soon : nat_lt now again ≡ true = lt_true now again (omega arith) in rw (on, soon) refl
session_rests Inviting now due e early = cc
session_rests (Invited reinvite) now due e early = cc
session_rests (Ending until) now due e early = let at : until ≡ due = cc in let on : nat_le until now ≡ false = le_off until now (omega arith) in rw on refl
session_rests Ended now due e early = cc
