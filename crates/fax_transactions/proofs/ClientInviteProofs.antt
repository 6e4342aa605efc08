-- The laws of the client transaction of an INVITE, step by step.
use Rattle.std.proofs.Common.{◌≡◌, ℕ, ◌+◌, ◌-◌, ◌^◌, ◌≤◌, ◌<◌, min, max, Bool, true, false, nat_le, nat_lt, List, [], ◌∷◌, refl, arith}
use Rattle.fax_transactions.specs.declared.client.ClientAction.{ClientAction}
use Rattle.fax_transactions.specs.declared.client.ClientAction.TheVariants.{Nothing, SendAgain, Tell, TellAndAcknowledge, AcknowledgeAgain, TimedOut}
use Rattle.fax_transactions.specs.declared.client.ClientEvent.{ClientEvent}
use Rattle.fax_transactions.specs.declared.client.ClientEvent.TheVariants.{TimePassed, Answered, NotSent, Cancelled}
use Rattle.fax_transactions.specs.declared.client_invite.ClientInvite.{ClientInvite}
use Rattle.fax_transactions.specs.declared.client_invite.ClientInvite.TheVariants.{Calling, Proceeding, Completed, Terminated}
use Rattle.fax_transactions.specs.ClientInvites.{answered_row, begun, calling_row, completed_row, proceeding_row, row}
use Rattle.fax_transactions.specs.ClientInviteLaws.{acknowledges, is_sent_again, is_waiting, tells_outcome, InviteEnds, InviteIsSentApart, InviteRests, InviteTellsOnce, NothingElseIsAcknowledged, RefusalsAreAcknowledged}
use Rattle.fax_transactions.specs.Runs.{actions_of, count_of, moments_of, one_if, state_after, ApartDoubling}
use Rattle.fax_transactions.specs.Spans.{later, doubled, timeout}
use Rattle.fax_transactions.proofs.RunProofs.{above, chosen, count_more, le_false, le_off, le_true, lt_false, lt_off, lt_true, not_above, onward, Goes}

-- ---- it ends

-- it ends by a bound, or Timer D after it
abbrev pub IsWithin : ℕ → ClientInvite → Type 0
IsWithin bound (Calling again pause until limit) = (until ≤ bound) × (limit ≤ bound)
IsWithin bound (Proceeding until) = until ≤ bound
IsWithin bound (Completed until) = until ≤ bound + 32000
IsWithin bound Terminated = Unit {0}

pub answered_within : (bound limit now status : ℕ) → limit ≤ bound → now < bound → IsWithin bound (answered_row limit now status).0
answered_within bound limit now status within early =
    chosen (λ (r : ClientInvite × ClientAction). IsWithin bound r.0) (nat_lt status 200) (Proceeding limit, Tell status) _
    (λ _. within)
    (λ _. chosen (λ (r : ClientInvite × ClientAction). IsWithin bound r.0) (nat_lt status 300) (Terminated, Tell status) (Completed (later now timeout), TellAndAcknowledge status)
    (λ _. tt)
    (λ _. omega arith))

pub calling_within : (bound again pause until limit now : ℕ) (event : ClientEvent) → (until ≤ bound) × (limit ≤ bound) → now < until → IsWithin bound (calling_row again pause until limit now event).0
calling_within bound again pause until limit now TimePassed within early =
    chosen (λ (r : ClientInvite × ClientAction). IsWithin bound r.0) (nat_lt now again) (Calling again pause until limit, Nothing) (Calling (later now (doubled pause)) (doubled pause) until limit, SendAgain)
    (λ _. within) (λ _. within)
calling_within bound again pause until limit now (Answered status) within early = answered_within bound limit now status within.1 (omega arith)
calling_within bound again pause until limit now NotSent within early = tt
calling_within bound again pause until limit now Cancelled within early = within

pub proceeding_within : (bound until now : ℕ) (event : ClientEvent) → until ≤ bound → now < until → IsWithin bound (proceeding_row until now event).0
proceeding_within bound until now (Answered status) within early = answered_within bound until now status within (omega arith)
proceeding_within bound until now Cancelled within early = omega arith
proceeding_within bound until now TimePassed within early = within
proceeding_within bound until now NotSent within early = within

pub completed_within : (bound until : ℕ) (event : ClientEvent) → until ≤ bound + 32000 → IsWithin bound (completed_row until event).0
completed_within bound until (Answered status) within =
    chosen (λ (r : ClientInvite × ClientAction). IsWithin bound r.0) (nat_lt status 300) (Completed until, Nothing) (Completed until, AcknowledgeAgain) (λ _. within) (λ _. within)
completed_within bound until NotSent within = tt
completed_within bound until TimePassed within = within
completed_within bound until Cancelled within = within

pub row_within : (bound : ℕ) (state : ClientInvite) (now : ℕ) (event : ClientEvent) → IsWithin bound state → IsWithin bound (row state now event).0
row_within bound (Calling again pause until limit) now event within =
    chosen (λ (r : ClientInvite × ClientAction). IsWithin bound r.0) (nat_le until now) (Terminated, TimedOut) _ (λ _. tt) (λ e. calling_within bound again pause until limit now event within (le_false until now e))
row_within bound (Proceeding until) now event within =
    chosen (λ (r : ClientInvite × ClientAction). IsWithin bound r.0) (nat_le until now) (Terminated, TimedOut) _ (λ _. tt) (λ e. proceeding_within bound until now event within (le_false until now e))
row_within bound (Completed until) now event within =
    chosen (λ (r : ClientInvite × ClientAction). IsWithin bound r.0) (nat_le until now) (Terminated, Nothing) _ (λ _. tt) (λ _. completed_within bound until event within)
row_within bound Terminated now event within = tt

pub run_within : (bound : ℕ) (state : ClientInvite) (happened : List (ℕ × ClientEvent)) → IsWithin bound state → IsWithin bound (state_after row state happened)
run_within bound state [] within = within
run_within bound state (happening ∷ happened) within = run_within bound (row state happening.0 happening.1).0 happened (row_within bound state happening.0 happening.1 within)

pub over : (bound : ℕ) (state : ClientInvite) (now : ℕ) (event : ClientEvent) → IsWithin bound state → bound + 32000 ≤ now → (row state now event).0 ≡ Terminated
over bound (Calling again pause until limit) now event within late = let due : nat_le until now ≡ true = le_true until now (omega (arith, within.0)) in rw due refl
over bound (Proceeding until) now event within late = let due : nat_le until now ≡ true = le_true until now (omega (arith, within)) in rw due refl
over bound (Completed until) now event within late = let due : nat_le until now ≡ true = le_true until now (omega (arith, within)) in rw due refl
over bound Terminated now event within late = refl

pub invite_ends : InviteEnds
invite_ends sent limit now happened event late =
    let bound : ℕ = max (sent + 32000) limit in
    over bound (state_after row (begun sent limit) happened) now event (run_within bound (begun sent limit) happened (omega arith, omega arith)) late

-- ---- one outcome is told

-- the outcome of what waited, and of what did not
abbrev pub Tells : ClientInvite × ClientAction → Type 0
Tells r = one_if (tells_outcome r.1) + one_if (is_waiting r.0) ≡ 1

abbrev pub Told : ClientInvite × ClientAction → Type 0
Told r = one_if (tells_outcome r.1) + one_if (is_waiting r.0) ≡ 0

pub answered_tells : (limit now status : ℕ) → one_if (tells_outcome (answered_row limit now status).1) + one_if (is_waiting (answered_row limit now status).0) ≡ 1
answered_tells limit now status =
    chosen Tells (nat_lt status 200) (Proceeding limit, Tell status) _
    (λ e. rw (not_above status e) refl)
    (λ e. chosen Tells (nat_lt status 300) (Terminated, Tell status) (Completed (later now timeout), TellAndAcknowledge status) (λ _. rw (above status e) refl) (λ _. refl))

pub calling_tells : (again pause until limit now : ℕ) (event : ClientEvent) → Tells (calling_row again pause until limit now event)
calling_tells again pause until limit now TimePassed =
    chosen Tells (nat_lt now again) (Calling again pause until limit, Nothing) (Calling (later now (doubled pause)) (doubled pause) until limit, SendAgain) (λ _. refl) (λ _. refl)
calling_tells again pause until limit now (Answered status) = answered_tells limit now status
calling_tells again pause until limit now NotSent = refl
calling_tells again pause until limit now Cancelled = refl

pub proceeding_tells : (until now : ℕ) (event : ClientEvent) → Tells (proceeding_row until now event)
proceeding_tells until now (Answered status) = answered_tells until now status
proceeding_tells until now Cancelled = refl
proceeding_tells until now TimePassed = refl
proceeding_tells until now NotSent = refl

pub completed_tells : (until : ℕ) (event : ClientEvent) → Told (completed_row until event)
completed_tells until (Answered status) = chosen Told (nat_lt status 300) (Completed until, Nothing) (Completed until, AcknowledgeAgain) (λ _. refl) (λ _. refl)
completed_tells until NotSent = refl
completed_tells until TimePassed = refl
completed_tells until Cancelled = refl

pub row_tells : (state : ClientInvite) (now : ℕ) (event : ClientEvent)
    → one_if (tells_outcome (row state now event).1) + one_if (is_waiting (row state now event).0) ≡ one_if (is_waiting state)
row_tells (Calling again pause until limit) now event = chosen Tells (nat_le until now) (Terminated, TimedOut) _ (λ _. refl) (λ _. calling_tells again pause until limit now event)
row_tells (Proceeding until) now event = chosen Tells (nat_le until now) (Terminated, TimedOut) _ (λ _. refl) (λ _. proceeding_tells until now event)
row_tells (Completed until) now event = chosen Told (nat_le until now) (Terminated, Nothing) _ (λ _. refl) (λ _. completed_tells until event)
row_tells Terminated now event = refl

pub run_tells : (state : ClientInvite) (happened : List (ℕ × ClientEvent))
    → count_of tells_outcome (actions_of row state happened) + one_if (is_waiting (state_after row state happened)) ≡ one_if (is_waiting state)
run_tells state [] = omega arith
run_tells state (happening ∷ happened) =
    let next : ClientInvite = (row state happening.0 happening.1).0 in
    count_more (one_if (tells_outcome (row state happening.0 happening.1).1)) _ _ _ _ (row_tells state happening.0 happening.1) (run_tells next happened)

pub invite_tells_once : InviteTellsOnce
invite_tells_once sent limit happened = run_tells (begun sent limit) happened

-- ---- it is sent again at its moments

-- where it is calling, Timer A is due a pause after the last time
abbrev pub Sends : ℕ → ℕ → ClientInvite → Type 0
Sends last pause (Calling again wait until limit) = (again ≡ min (last + wait) (2 ^ 64 - 1)) × (wait ≡ min pause (2 ^ 64 - 1)) × (until ≤ 2 ^ 64 - 1)
Sends last pause (Proceeding until) = Unit {0}
Sends last pause (Completed until) = Unit {0}
Sends last pause Terminated = Unit {0}

abbrev pub SendsSo : Bool → ℕ → ℕ → ℕ → ClientInvite → Type 0
SendsSo true last pause now state = (last + pause ≤ now) × Sends now (pause + pause) state
SendsSo false last pause now state = Sends last pause state

-- what was done at a moment is a sending that is in time, or none
abbrev pub SendsOn : ℕ → ℕ → ℕ → ClientInvite × ClientAction → Type 0
SendsOn last pause now r = SendsSo (is_sent_again r.1) last pause now r.0

pub answered_sends : (last pause limit now status : ℕ) → SendsOn last pause now (answered_row limit now status)
answered_sends last pause limit now status =
    chosen (SendsOn last pause now) (nat_lt status 200) (Proceeding limit, Tell status) _ (λ _. tt)
    (λ _. chosen (SendsOn last pause now) (nat_lt status 300) (Terminated, Tell status) (Completed (later now timeout), TellAndAcknowledge status) (λ _. tt) (λ _. tt))

pub calling_sends : (last pause again wait until limit now : ℕ) (event : ClientEvent) → Sends last pause (Calling again wait until limit) → now < until
    → SendsOn last pause now (calling_row again wait until limit now event)
calling_sends last pause again wait until limit now TimePassed sends early =
    chosen (SendsOn last pause now) (nat_lt now again) (Calling again wait until limit, Nothing) (Calling (later now (doubled wait)) (doubled wait) until limit, SendAgain)
    (λ _. sends)
    (λ e. let due : again ≤ now = lt_false now again e in (omega (arith, sends.0, sends.1, sends.2), (refl, omega (arith, sends.0, sends.1, sends.2), sends.2)))
calling_sends last pause again wait until limit now (Answered status) sends early = answered_sends last pause limit now status
calling_sends last pause again wait until limit now NotSent sends early = tt
calling_sends last pause again wait until limit now Cancelled sends early = sends

pub proceeding_sends : (last pause until now : ℕ) (event : ClientEvent) → SendsOn last pause now (proceeding_row until now event)
proceeding_sends last pause until now (Answered status) = answered_sends last pause until now status
proceeding_sends last pause until now Cancelled = tt
proceeding_sends last pause until now TimePassed = tt
proceeding_sends last pause until now NotSent = tt

pub completed_sends : (last pause until now : ℕ) (event : ClientEvent) → SendsOn last pause now (completed_row until event)
completed_sends last pause until now (Answered status) =
    chosen (SendsOn last pause now) (nat_lt status 300) (Completed until, Nothing) (Completed until, AcknowledgeAgain) (λ _. tt) (λ _. tt)
completed_sends last pause until now NotSent = tt
completed_sends last pause until now TimePassed = tt
completed_sends last pause until now Cancelled = tt

pub row_sends : (last pause : ℕ) (state : ClientInvite) (now : ℕ) (event : ClientEvent) → Sends last pause state → SendsOn last pause now (row state now event)
row_sends last pause (Calling again wait until limit) now event sends =
    chosen (SendsOn last pause now) (nat_le until now) (Terminated, TimedOut) _ (λ _. tt) (λ e. calling_sends last pause again wait until limit now event sends (le_false until now e))
row_sends last pause (Proceeding until) now event sends =
    chosen (SendsOn last pause now) (nat_le until now) (Terminated, TimedOut) _ (λ _. tt) (λ _. proceeding_sends last pause until now event)
row_sends last pause (Completed until) now event sends =
    chosen (SendsOn last pause now) (nat_le until now) (Terminated, Nothing) _ (λ _. tt) (λ _. completed_sends last pause until now event)
row_sends last pause Terminated now event sends = tt

pub by : (b : Bool) (last pause now : ℕ) (state : ClientInvite) → SendsSo b last pause now state
    → Goes b (Sends last pause state) ((last + pause ≤ now) × Sends now (pause + pause) state)
by true last pause now state sends = sends
by false last pause now state sends = sends

pub run_sends : (last pause : ℕ) (state : ClientInvite) (happened : List (ℕ × ClientEvent)) → Sends last pause state
    → ApartDoubling last pause (moments_of is_sent_again (actions_of row state happened))
run_sends last pause state [] sends = tt
run_sends last pause state (happening ∷ happened) sends =
    let next : ClientInvite = (row state happening.0 happening.1).0 in
    onward (is_sent_again (row state happening.0 happening.1).1) last pause happening.0 (moments_of is_sent_again (actions_of row next happened)) (Sends last pause next) (Sends happening.0 (pause + pause) next)
    (by (is_sent_again (row state happening.0 happening.1).1) last pause happening.0 next (row_sends last pause state happening.0 happening.1 sends))
    (run_sends last pause next happened) (run_sends happening.0 (pause + pause) next happened)

pub invite_is_sent_apart : InviteIsSentApart
invite_is_sent_apart sent limit happened = run_sends sent 500 (begun sent limit) happened (refl, omega arith, omega arith)

-- ---- ACK and rest

pub refusals_are_acknowledged : RefusalsAreAcknowledged
refusals_are_acknowledged (Calling again pause until limit) now status refused on =
    let early : nat_le until now ≡ false = le_off until now on in
    let high : nat_lt status 200 ≡ false = lt_off status 200 (omega arith) in
    let higher : nat_lt status 300 ≡ false = lt_off status 300 refused in rw (early, high, higher) refl
refusals_are_acknowledged (Proceeding until) now status refused on =
    let early : nat_le until now ≡ false = le_off until now on in
    let high : nat_lt status 200 ≡ false = lt_off status 200 (omega arith) in
    let higher : nat_lt status 300 ≡ false = lt_off status 300 refused in rw (early, high, higher) refl
refusals_are_acknowledged (Completed until) now status refused on =
    let early : nat_le until now ≡ false = le_off until now on in
    let higher : nat_lt status 300 ≡ false = lt_off status 300 refused in rw (early, higher) refl
refusals_are_acknowledged Terminated now status refused on = absurd on

pub invite_rests : InviteRests
invite_rests (Calling again pause until limit) now due e early =
    let at : min again until ≡ due = cc in
    let on : nat_le until now ≡ false = le_off until now (omega arith) in
    let soon : nat_lt now again ≡ true = lt_true now again (omega arith) in rw (on, soon) refl
invite_rests (Proceeding until) now due e early = let at : until ≡ due = cc in let on : nat_le until now ≡ false = le_off until now (omega arith) in rw on refl
invite_rests (Completed until) now due e early = let at : until ≡ due = cc in let on : nat_le until now ≡ false = le_off until now (omega arith) in rw on refl
invite_rests Terminated now due e early = cc

-- what acknowledges is an answer that refuses
abbrev pub Refused : ClientEvent → ClientInvite × ClientAction → Type 0
Refused event r = acknowledges r.1 ≡ true → (status : ℕ) × (event ≡ Answered status) × (300 ≤ status)

pub answered_refused : (limit now status : ℕ) → Refused (Answered status) (answered_row limit now status)
answered_refused limit now status =
    chosen (Refused (Answered status)) (nat_lt status 200) (Proceeding limit, Tell status) _ (λ _ e. cc)
    (λ _. chosen (Refused (Answered status)) (nat_lt status 300) (Terminated, Tell status) (Completed (later now timeout), TellAndAcknowledge status) (λ _ e. cc) (λ high e. (status, refl, lt_false status 300 high)))

pub calling_refused : (again pause until limit now : ℕ) (event : ClientEvent) → Refused event (calling_row again pause until limit now event)
calling_refused again pause until limit now TimePassed =
    chosen (Refused TimePassed) (nat_lt now again) (Calling again pause until limit, Nothing) (Calling (later now (doubled pause)) (doubled pause) until limit, SendAgain) (λ _ e. cc) (λ _ e. cc)
calling_refused again pause until limit now (Answered status) = answered_refused limit now status
calling_refused again pause until limit now NotSent = λ e. cc
calling_refused again pause until limit now Cancelled = λ e. cc

pub proceeding_refused : (until now : ℕ) (event : ClientEvent) → Refused event (proceeding_row until now event)
proceeding_refused until now (Answered status) = answered_refused until now status
proceeding_refused until now Cancelled = λ e. cc
proceeding_refused until now TimePassed = λ e. cc
proceeding_refused until now NotSent = λ e. cc

pub completed_refused : (until : ℕ) (event : ClientEvent) → Refused event (completed_row until event)
completed_refused until (Answered status) =
    chosen (Refused (Answered status)) (nat_lt status 300) (Completed until, Nothing) (Completed until, AcknowledgeAgain) (λ _ e. cc) (λ high e. (status, refl, lt_false status 300 high))
completed_refused until NotSent = λ e. cc
completed_refused until TimePassed = λ e. cc
completed_refused until Cancelled = λ e. cc

pub nothing_else_is_acknowledged : NothingElseIsAcknowledged
nothing_else_is_acknowledged (Calling again pause until limit) now event =
    chosen (Refused event) (nat_le until now) (Terminated, TimedOut) _ (λ _ e. cc) (λ _. calling_refused again pause until limit now event)
nothing_else_is_acknowledged (Proceeding until) now event = chosen (Refused event) (nat_le until now) (Terminated, TimedOut) _ (λ _ e. cc) (λ _. proceeding_refused until now event)
nothing_else_is_acknowledged (Completed until) now event = chosen (Refused event) (nat_le until now) (Terminated, Nothing) _ (λ _ e. cc) (λ _. completed_refused until event)
nothing_else_is_acknowledged Terminated now event = λ e. cc
