-- A session's end, step by step.
use Rattle.std.proofs.Common.{◌≡◌, ℕ, ◌+◌, ◌≤◌, ◌<◌, ◌||◌, ◌==◌, min, Bool, true, false, nat_le, nat_lt, Option, None, Some, List, [], ◌∷◌, refl, arith}
use Rattle.fax_dialogs.specs.declared.session.Next.{Next}
use Rattle.fax_dialogs.specs.declared.session.Next.TheVariants.{Stay, Again, Bye}
use Rattle.fax_dialogs.specs.declared.session.Session.{Session}
use Rattle.fax_dialogs.specs.declared.session.Session.TheVariants.{Confirmed, Accepted, Inviting, Invited, Ending, Ended}
use Rattle.fax_dialogs.specs.declared.session_action.SessionAction.{SessionAction}
use Rattle.fax_dialogs.specs.declared.session_action.SessionAction.TheVariants.{Nothing, SendInvite, SendAnswer, SendAgain, Acknowledge, TellAndAcknowledge, TellRefused, TellAndSendBye}
use Rattle.fax_dialogs.specs.declared.session_event.SessionEvent.{SessionEvent}
use Rattle.fax_dialogs.specs.declared.session_event.SessionEvent.TheVariants.{TimePassed, Reinvite, Answer, HangUp, InviteCame, AckCame, ByeCame, Answered, AnsweredAgain, ByeAnswered}
use Rattle.fax_dialogs.specs.SessionLaws.{is_new, sends_bye, AllUpTo, ByeIsSentOnce, EndIsSilent, EndsFrom, IsOver, SessionEnds}
use Rattle.fax_dialogs.specs.Sessions.{accepted, accepted_row, acknowledged, answer_row, answered_row, confirmed_row, ended_row, ending, ending_row, invited_row, inviting_row, is_success, next_of, next_with, other_row, row, sent_or_waiting, wished}
use Rattle.fax_transactions.specs.Runs.{actions_of, count_of, one_if, state_after}
use Rattle.fax_transactions.specs.Spans.{later, longer}
use Rattle.fax_transactions.proofs.RunProofs.{chosen, le_false, le_true}

-- what holds where an event is passed over, and where a 2xx gets its ACK
pub other_has : (P : Session × SessionAction → Type 0) (state : Session) (event : SessionEvent) → P (state, Nothing) → P (state, Acknowledge) → P (other_row state event)
other_has P state (Answered status pause) n a = chosen P (is_success status) (state, Acknowledge) (state, Nothing) (λ _. a) (λ _. n)
other_has P state AnsweredAgain n a = a
other_has P state other n a = n

-- a fact that is owed where a test passes
abbrev pub Where : Bool → Type 0 → Type 0
Where true P = P
Where false P = Unit {0}

pub where_true : (b : Bool) (P : Type 0) → Where b P → b ≡ true → P
where_true true P p e = p
where_true false P p e = cc

-- ---- silence

abbrev pub Silent : Session × SessionAction → Type 0
Silent r = (is_new r.1 ≡ false) × (sends_bye r.1 ≡ false) × IsOver r.0

pub ending_silent : (until : ℕ) (event : SessionEvent) → Silent (ending_row until event)
ending_silent until ByeAnswered = (refl, refl, tt)
ending_silent until ByeCame = (refl, refl, tt)
ending_silent until InviteCame = (refl, refl, tt)
ending_silent until other = other_has Silent (Ending until) other (refl, refl, tt) (refl, refl, tt)

pub ended_silent : (event : SessionEvent) → Silent (ended_row event)
ended_silent ByeCame = (refl, refl, tt)
ended_silent InviteCame = (refl, refl, tt)
ended_silent other = other_has Silent Ended other (refl, refl, tt) (refl, refl, tt)

pub row_silent : (state : Session) (now : ℕ) (event : SessionEvent) → IsOver state → Silent (row state now event)
row_silent (Confirmed reinvite) now event over = absurd over
row_silent (Accepted again pause until next) now event over = absurd over
row_silent Inviting now event over = absurd over
row_silent (Invited reinvite) now event over = absurd over
row_silent (Ending until) now event over = chosen Silent (nat_le until now) (Ended, Nothing) _ (λ _. (refl, refl, tt)) (λ _. ending_silent until event)
row_silent Ended now event over = ended_silent event

pub end_is_silent : EndIsSilent
end_is_silent state [] over = refl
end_is_silent state (happening ∷ happened) over =
    let step : Silent (row state happening.0 happening.1) = row_silent state happening.0 happening.1 over in
    rw (step.0, end_is_silent (row state happening.0 happening.1).0 happened step.2) refl

pub no_bye_after : (state : Session) (happened : List (ℕ × SessionEvent)) → IsOver state → count_of sends_bye (actions_of row state happened) ≡ 0
no_bye_after state [] over = refl
no_bye_after state (happening ∷ happened) over =
    let step : Silent (row state happening.0 happening.1) = row_silent state happening.0 happening.1 over in
    rw (step.1, no_bye_after (row state happening.0 happening.1).0 happened step.2) refl

-- ---- one BYE

-- where a BYE is sent, it is over
abbrev pub ByeEnds : Session × SessionAction → Type 0
ByeEnds r = Where (sends_bye r.1) (IsOver r.0)

pub wished_bye : (reinvite : Option ℕ) (now : ℕ) → ByeEnds (wished reinvite now)
wished_bye None now = tt
wished_bye (Some at) now = chosen ByeEnds (nat_lt now at) (Confirmed (Some at), Nothing) (Inviting, SendInvite) (λ _. tt) (λ _. tt)

pub sent_bye : (reinvite : Option ℕ) → ByeEnds (sent_or_waiting reinvite)
sent_bye None = tt
sent_bye (Some at) = tt

pub confirmed_bye : (reinvite : Option ℕ) (now : ℕ) (event : SessionEvent) → ByeEnds (confirmed_row reinvite now event)
confirmed_bye reinvite now TimePassed = wished_bye reinvite now
confirmed_bye reinvite now Reinvite = sent_bye reinvite
confirmed_bye reinvite now HangUp = tt
confirmed_bye reinvite now InviteCame = tt
confirmed_bye reinvite now ByeCame = tt
confirmed_bye reinvite now other = other_has ByeEnds (Confirmed reinvite) other tt tt

pub acknowledged_bye : (next : Next) (now : ℕ) → ByeEnds (acknowledged next now)
acknowledged_bye Stay now = tt
acknowledged_bye (Again at) now = tt
acknowledged_bye Bye now = tt

pub accepted_bye : (again pause until : ℕ) (next : Next) (now : ℕ) (event : SessionEvent) → ByeEnds (accepted_row again pause until next now event)
accepted_bye again pause until next now TimePassed =
    chosen ByeEnds (nat_lt now again) (Accepted again pause until next, Nothing) (Accepted (later now (longer pause)) (longer pause) until next, SendAgain) (λ _. tt) (λ _. tt)
accepted_bye again pause until next now Reinvite = tt
accepted_bye again pause until next now HangUp = tt
accepted_bye again pause until next now InviteCame = tt
accepted_bye again pause until next now AckCame = acknowledged_bye next now
accepted_bye again pause until next now ByeCame = tt
accepted_bye again pause until next now other = other_has ByeEnds (Accepted again pause until next) other tt tt

-- the five ways on after an answer to our INVITE
pub answered_has :
    (P : Session × SessionAction → Type 0) (now status pause : ℕ) → (nat_lt status 200 ≡ true → P (Inviting, Nothing)) → P (Confirmed None, TellAndAcknowledge)
    → P (Confirmed (Some (later now pause)), Nothing) → P (ending now, TellAndSendBye) → P (Confirmed None, TellRefused status) → P (answered_row now status pause)
answered_has P now status pause first accept wait end refuse =
    chosen P (nat_lt status 200) (Inviting, Nothing) _ first
    (λ _. chosen P (nat_lt status 300) (Confirmed None, TellAndAcknowledge) _ (λ _. accept)
    (λ _. chosen P (status == 491) (Confirmed (Some (later now pause)), Nothing) _ (λ _. wait)
    (λ _. chosen P (status == 408 || status == 481) (ending now, TellAndSendBye) (Confirmed None, TellRefused status) (λ _. end) (λ _. refuse))))

pub inviting_bye : (now : ℕ) (event : SessionEvent) → ByeEnds (inviting_row now event)
inviting_bye now (Answered status pause) = answered_has ByeEnds now status pause (λ _. tt) tt tt tt tt
inviting_bye now HangUp = tt
inviting_bye now InviteCame = tt
inviting_bye now ByeCame = tt
inviting_bye now other = other_has ByeEnds Inviting other tt tt

pub answer_has :
    (P : Session × SessionAction → Type 0) (reinvite : Option ℕ) (now status : ℕ) → (nat_lt status 200 ≡ true → P (Invited reinvite, SendAnswer))
    → (nat_lt status 200 ≡ false → P (accepted now (next_of reinvite), SendAnswer)) → (nat_lt status 200 ≡ false → P (Confirmed reinvite, SendAnswer)) → P (answer_row reinvite now status)
answer_has P reinvite now status first accept refuse =
    chosen P (nat_lt status 200) (Invited reinvite, SendAnswer) _ first
    (λ e. chosen P (nat_lt status 300) (accepted now (next_of reinvite), SendAnswer) (Confirmed reinvite, SendAnswer) (λ _. accept e) (λ _. refuse e))

pub invited_bye : (reinvite : Option ℕ) (now : ℕ) (event : SessionEvent) → ByeEnds (invited_row reinvite now event)
invited_bye reinvite now (Answer status) = answer_has ByeEnds reinvite now status (λ _. tt) (λ _. tt) (λ _. tt)
invited_bye reinvite now Reinvite = tt
invited_bye reinvite now HangUp = tt
invited_bye reinvite now InviteCame = tt
invited_bye reinvite now ByeCame = tt
invited_bye reinvite now other = other_has ByeEnds (Invited reinvite) other tt tt

pub ending_bye : (until : ℕ) (event : SessionEvent) → ByeEnds (ending_row until event)
ending_bye until ByeAnswered = tt
ending_bye until ByeCame = tt
ending_bye until InviteCame = tt
ending_bye until other = other_has ByeEnds (Ending until) other tt tt

pub ended_bye : (event : SessionEvent) → ByeEnds (ended_row event)
ended_bye ByeCame = tt
ended_bye InviteCame = tt
ended_bye other = other_has ByeEnds Ended other tt tt

pub row_bye : (state : Session) (now : ℕ) (event : SessionEvent) → ByeEnds (row state now event)
row_bye (Confirmed reinvite) now event = confirmed_bye reinvite now event
row_bye (Accepted again pause until next) now event =
    chosen ByeEnds (nat_le until now) (ending until, TellAndSendBye) _ (λ _. tt) (λ _. accepted_bye again pause until next now event)
row_bye Inviting now event = inviting_bye now event
row_bye (Invited reinvite) now event = invited_bye reinvite now event
row_bye (Ending until) now event = chosen ByeEnds (nat_le until now) (Ended, Nothing) _ (λ _. tt) (λ _. ending_bye until event)
row_bye Ended now event = ended_bye event

pub one_more : (b : Bool) (rest : ℕ) → (b ≡ true → rest ≡ 0) → rest ≤ 1 → one_if b + rest ≤ 1
one_more true rest none most = let e : rest ≡ 0 = none refl in omega arith
one_more false rest none most = omega arith

pub bye_is_sent_once : ByeIsSentOnce
bye_is_sent_once state [] = omega arith
bye_is_sent_once state (happening ∷ happened) =
    one_more (sends_bye (row state happening.0 happening.1).1) (count_of sends_bye (actions_of row (row state happening.0 happening.1).0 happened))
    (λ e. no_bye_after (row state happening.0 happening.1).0 happened
    (where_true (sends_bye (row state happening.0 happening.1).1) (IsOver (row state happening.0 happening.1).0) (row_bye state happening.0 happening.1) e))
    (bye_is_sent_once (row state happening.0 happening.1).0 happened)

-- ---- it ends by a bound

-- what is due is due within 64 T1, or 128 T1, of a moment
abbrev pub Before : ℕ → Session → Type 0
Before told (Confirmed reinvite) = Unit {0}
Before told (Accepted again pause until next) = until ≤ told + 32000
Before told Inviting = Unit {0}
Before told (Invited reinvite) = Unit {0}
Before told (Ending until) = until ≤ told + 64000
Before told Ended = Unit {0}

abbrev pub B : ℕ → Session × SessionAction → Type 0
B told r = Before told r.0

pub wished_before : (told : ℕ) (reinvite : Option ℕ) (now : ℕ) → B told (wished reinvite now)
wished_before told None now = tt
wished_before told (Some at) now = chosen (B told) (nat_lt now at) (Confirmed (Some at), Nothing) (Inviting, SendInvite) (λ _. tt) (λ _. tt)

pub sent_before : (told : ℕ) (reinvite : Option ℕ) → B told (sent_or_waiting reinvite)
sent_before told None = tt
sent_before told (Some at) = tt

pub confirmed_before : (told : ℕ) (reinvite : Option ℕ) (now : ℕ) (event : SessionEvent) → now ≤ told → B told (confirmed_row reinvite now event)
confirmed_before told reinvite now TimePassed early = wished_before told reinvite now
confirmed_before told reinvite now Reinvite early = sent_before told reinvite
confirmed_before told reinvite now HangUp early = omega arith
confirmed_before told reinvite now InviteCame early = tt
confirmed_before told reinvite now ByeCame early = tt
confirmed_before told reinvite now other early = other_has (B told) (Confirmed reinvite) other tt tt

pub acknowledged_before : (told : ℕ) (next : Next) (now : ℕ) → now ≤ told → B told (acknowledged next now)
acknowledged_before told Stay now early = tt
acknowledged_before told (Again at) now early = tt
acknowledged_before told Bye now early = omega arith

pub accepted_before :
    (told again pause until : ℕ) (next : Next) (now : ℕ) (event : SessionEvent) → now ≤ told → until ≤ told + 32000 → B told (accepted_row again pause until next now event)
accepted_before told again pause until next now TimePassed early within =
    chosen (B told) (nat_lt now again) (Accepted again pause until next, Nothing) (Accepted (later now (longer pause)) (longer pause) until next, SendAgain) (λ _. within) (λ _. within)
accepted_before told again pause until next now Reinvite early within = within
accepted_before told again pause until next now HangUp early within = within
accepted_before told again pause until next now InviteCame early within = within
accepted_before told again pause until next now AckCame early within = acknowledged_before told next now early
accepted_before told again pause until next now ByeCame early within = tt
accepted_before told again pause until next now other early within = other_has (B told) (Accepted again pause until next) other within within

pub inviting_before : (told now : ℕ) (event : SessionEvent) → now ≤ told → B told (inviting_row now event)
inviting_before told now (Answered status pause) early = answered_has (B told) now status pause (λ _. tt) tt tt (omega arith) tt
inviting_before told now HangUp early = omega arith
inviting_before told now InviteCame early = tt
inviting_before told now ByeCame early = tt
inviting_before told now other early = other_has (B told) Inviting other tt tt

pub invited_before : (told : ℕ) (reinvite : Option ℕ) (now : ℕ) (event : SessionEvent) → now ≤ told → B told (invited_row reinvite now event)
invited_before told reinvite now (Answer status) early = answer_has (B told) reinvite now status (λ _. tt) (λ _. omega arith) (λ _. tt)
invited_before told reinvite now Reinvite early = tt
invited_before told reinvite now HangUp early = omega arith
invited_before told reinvite now InviteCame early = tt
invited_before told reinvite now ByeCame early = tt
invited_before told reinvite now other early = other_has (B told) (Invited reinvite) other tt tt

pub ending_before : (told until : ℕ) (event : SessionEvent) → until ≤ told + 64000 → B told (ending_row until event)
ending_before told until ByeAnswered within = tt
ending_before told until ByeCame within = tt
ending_before told until InviteCame within = within
ending_before told until other within = other_has (B told) (Ending until) other within within

pub ended_before : (told : ℕ) (event : SessionEvent) → B told (ended_row event)
ended_before told ByeCame = tt
ended_before told InviteCame = tt
ended_before told other = other_has (B told) Ended other tt tt

pub row_before : (told : ℕ) (state : Session) (now : ℕ) (event : SessionEvent) → now ≤ told → Before told state → B told (row state now event)
row_before told (Confirmed reinvite) now event early within = confirmed_before told reinvite now event early
row_before told (Accepted again pause until next) now event early within =
    chosen (B told) (nat_le until now) (ending until, TellAndSendBye) _ (λ _. omega arith) (λ _. accepted_before told again pause until next now event early within)
row_before told Inviting now event early within = inviting_before told now event early
row_before told (Invited reinvite) now event early within = invited_before told reinvite now event early
row_before told (Ending until) now event early within = chosen (B told) (nat_le until now) (Ended, Nothing) _ (λ _. tt) (λ _. ending_before told until event within)
row_before told Ended now event early within = ended_before told event

pub run_before : (told : ℕ) (state : Session) (happened : List (ℕ × SessionEvent)) → AllUpTo told happened → Before told state → Before told (state_after row state happened)
run_before told state [] early within = within
run_before told state (happening ∷ happened) early within =
    run_before told (row state happening.0 happening.1).0 happened early.1 (row_before told state happening.0 happening.1 early.0 within)

-- the user ended it, and it is over by a bound
abbrev pub Leaving : ℕ → Session → Type 0
Leaving bound (Confirmed reinvite) = ⊥
Leaving bound (Accepted again pause until next) = (next ≡ Bye) × (until + 32000 ≤ bound)
Leaving bound Inviting = ⊥
Leaving bound (Invited reinvite) = ⊥
Leaving bound (Ending until) = until ≤ bound
Leaving bound Ended = Unit {0}

abbrev pub L : ℕ → Session × SessionAction → Type 0
L bound r = Leaving bound r.0

pub told_leaving : (told : ℕ) (state : Session) → Before told state → L (told + 64000) (row state told HangUp)
told_leaving told (Confirmed reinvite) within = omega arith
told_leaving told (Accepted again pause until next) within =
    chosen (L (told + 64000)) (nat_le until told) (ending until, TellAndSendBye) (Accepted again pause until Bye, Nothing) (λ _. omega arith) (λ _. (refl, omega arith))
told_leaving told Inviting within = omega arith
told_leaving told (Invited reinvite) within = omega arith
told_leaving told (Ending until) within = chosen (L (told + 64000)) (nat_le until told) (Ended, Nothing) (Ending until, Nothing) (λ _. tt) (λ _. within)
told_leaving told Ended within = tt

pub accepted_leaving :
    (bound again pause until now : ℕ) (event : SessionEvent) → until + 32000 ≤ bound → now < until → L bound (accepted_row again pause until Bye now event)
accepted_leaving bound again pause until now TimePassed within early =
    chosen (L bound) (nat_lt now again) (Accepted again pause until Bye, Nothing) (Accepted (later now (longer pause)) (longer pause) until Bye, SendAgain)
    (λ _. (refl, within)) (λ _. (refl, within))
accepted_leaving bound again pause until now Reinvite within early = (refl, within)
accepted_leaving bound again pause until now HangUp within early = (refl, within)
accepted_leaving bound again pause until now InviteCame within early = (refl, within)
accepted_leaving bound again pause until now AckCame within early = omega arith
accepted_leaving bound again pause until now ByeCame within early = tt
accepted_leaving bound again pause until now other within early = other_has (L bound) (Accepted again pause until Bye) other (refl, within) (refl, within)

pub ending_leaving : (bound until : ℕ) (event : SessionEvent) → until ≤ bound → L bound (ending_row until event)
ending_leaving bound until ByeAnswered within = tt
ending_leaving bound until ByeCame within = tt
ending_leaving bound until InviteCame within = within
ending_leaving bound until other within = other_has (L bound) (Ending until) other within within

pub ended_leaving : (bound : ℕ) (event : SessionEvent) → L bound (ended_row event)
ended_leaving bound ByeCame = tt
ended_leaving bound InviteCame = tt
ended_leaving bound other = other_has (L bound) Ended other tt tt

pub row_leaving : (bound : ℕ) (state : Session) (now : ℕ) (event : SessionEvent) → Leaving bound state → L bound (row state now event)
row_leaving bound (Confirmed reinvite) now event leaving = absurd leaving
row_leaving bound (Accepted again pause until Stay) now event leaving = cc
row_leaving bound (Accepted again pause until (Again at)) now event leaving = cc
row_leaving bound (Accepted again pause until Bye) now event leaving =
    let within : until + 32000 ≤ bound = leaving.1 in
    chosen (L bound) (nat_le until now) (ending until, TellAndSendBye) _ (λ _. omega arith)
    (λ e. accepted_leaving bound again pause until now event within (le_false until now e))
row_leaving bound Inviting now event leaving = absurd leaving
row_leaving bound (Invited reinvite) now event leaving = absurd leaving
row_leaving bound (Ending until) now event leaving = chosen (L bound) (nat_le until now) (Ended, Nothing) _ (λ _. tt) (λ _. ending_leaving bound until event leaving)
row_leaving bound Ended now event leaving = ended_leaving bound event

pub run_leaving : (bound : ℕ) (state : Session) (happened : List (ℕ × SessionEvent)) → Leaving bound state → Leaving bound (state_after row state happened)
run_leaving bound state [] leaving = leaving
run_leaving bound state (happening ∷ happened) leaving =
    run_leaving bound (row state happening.0 happening.1).0 happened (row_leaving bound state happening.0 happening.1 leaving)

-- what is ended stays so
pub ended_stays : (event : SessionEvent) → (ended_row event).0 ≡ Ended
ended_stays ByeCame = refl
ended_stays InviteCame = refl
ended_stays other = other_has (λ r. r.0 ≡ Ended) Ended other refl refl

pub over_by : (bound : ℕ) (state : Session) (first second : ℕ) (one other : SessionEvent) → Leaving bound state → bound ≤ first → bound ≤ second
    → (row (row state first one).0 second other).0 ≡ Ended
over_by bound (Confirmed reinvite) first second one other leaving late later_still = absurd leaving
over_by bound (Accepted again pause until next) first second one other leaving late later_still =
    let within : until + 32000 ≤ bound = leaving.1 in
    let due : nat_le until first ≡ true = le_true until first (omega arith) in
    let due_again : nat_le (later until 32000) second ≡ true = le_true (later until 32000) second (omega arith) in rw (due, due_again) refl
over_by bound Inviting first second one other leaving late later_still = absurd leaving
over_by bound (Invited reinvite) first second one other leaving late later_still = absurd leaving
over_by bound (Ending until) first second one other leaving late later_still =
    let due : nat_le until first ≡ true = le_true until first (omega arith) in rw due (ended_stays other)
over_by bound Ended first second one other leaving late later_still = rw (ended_stays one) (ended_stays other)

pub ends_from : (begun : Session) (told : ℕ) → Before told begun → EndsFrom begun told
ends_from begun told within before after first second one other early late later_still =
    over_by (told + 64000) (state_after row (row (state_after row begun before) told HangUp).0 after) first second one other
    (run_leaving (told + 64000) (row (state_after row begun before) told HangUp).0 after
    (told_leaving told (state_after row begun before) (run_before told begun before early within))) late later_still

pub session_ends : SessionEnds
session_ends told = (ends_from Inviting told tt, λ sent early. ends_from (accepted sent Stay) told (omega arith))
