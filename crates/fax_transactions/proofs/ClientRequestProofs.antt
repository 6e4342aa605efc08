-- The laws of the client transaction of a request that is neither an INVITE nor an ACK, step by step.
use Rattle.std.proofs.Common.{◌≡◌, ℕ, ◌+◌, ◌-◌, ◌^◌, ◌≤◌, ◌<◌, min, Bool, true, false, nat_le, nat_lt, List, [], ◌∷◌, refl, arith}
use Rattle.fax_transactions.specs.declared.client.ClientAction.{ClientAction}
use Rattle.fax_transactions.specs.declared.client.ClientAction.TheVariants.{Nothing, SendAgain, Tell, TimedOut}
use Rattle.fax_transactions.specs.declared.client.ClientEvent.{ClientEvent}
use Rattle.fax_transactions.specs.declared.client.ClientEvent.TheVariants.{TimePassed, Answered, NotSent, Cancelled}
use Rattle.fax_transactions.specs.declared.client_request.ClientRequest.{ClientRequest}
use Rattle.fax_transactions.specs.declared.client_request.ClientRequest.TheVariants.{Trying, Proceeding, Completed, Terminated}
use Rattle.fax_transactions.specs.ClientInviteLaws.{is_sent_again, tells_outcome}
use Rattle.fax_transactions.specs.ClientRequestLaws.{is_waiting, RequestEnds, RequestIsSentApart, RequestRests, RequestTellsOnce}
use Rattle.fax_transactions.specs.ClientRequests.{answered_row, begun, proceeding_row, row, trying_row}
use Rattle.fax_transactions.specs.Runs.{actions_of, count_of, moments_of, one_if, state_after, ApartGrowing}
use Rattle.fax_transactions.specs.Spans.{t2, t4, later, longer}
use Rattle.fax_transactions.proofs.RunProofs.{above, chosen, count_more, le_false, le_off, le_true, lt_false, lt_true, not_above, onward_growing, Goes}

-- ---- it ends

-- it ends by a bound, or Timer K after it
abbrev pub IsWithin : ℕ → ClientRequest → Type 0
IsWithin bound (Trying again pause until) = until ≤ bound
IsWithin bound (Proceeding again until) = until ≤ bound
IsWithin bound (Completed until) = until ≤ bound + 5000
IsWithin bound Terminated = Unit {0}

abbrev pub In : ℕ → ClientRequest × ClientAction → Type 0
In bound r = IsWithin bound r.0

pub answered_within : (bound again until now status : ℕ) → until ≤ bound → now < until → In bound (answered_row again until now status)
answered_within bound again until now status within early =
    chosen (In bound) (nat_lt status 200) (Proceeding again until, Tell status) (Completed (later now t4), Tell status) (λ _. within) (λ _. omega arith)

pub trying_within : (bound again pause until now : ℕ) (event : ClientEvent) → until ≤ bound → now < until → In bound (trying_row again pause until now event)
trying_within bound again pause until now TimePassed within early =
    chosen (In bound) (nat_lt now again) (Trying again pause until, Nothing) (Trying (later now (longer pause)) (longer pause) until, SendAgain) (λ _. within) (λ _. within)
trying_within bound again pause until now (Answered status) within early = answered_within bound again until now status within early
trying_within bound again pause until now NotSent within early = tt
trying_within bound again pause until now Cancelled within early = within

pub proceeding_within : (bound again until now : ℕ) (event : ClientEvent) → until ≤ bound → now < until → In bound (proceeding_row again until now event)
proceeding_within bound again until now TimePassed within early =
    chosen (In bound) (nat_lt now again) (Proceeding again until, Nothing) (Proceeding (later now t2) until, SendAgain) (λ _. within) (λ _. within)
proceeding_within bound again until now (Answered status) within early = answered_within bound again until now status within early
proceeding_within bound again until now NotSent within early = tt
proceeding_within bound again until now Cancelled within early = within

pub row_within : (bound : ℕ) (state : ClientRequest) (now : ℕ) (event : ClientEvent) → IsWithin bound state → IsWithin bound (row state now event).0
row_within bound (Trying again pause until) now event within =
    chosen (In bound) (nat_le until now) (Terminated, TimedOut) _ (λ _. tt) (λ e. trying_within bound again pause until now event within (le_false until now e))
row_within bound (Proceeding again until) now event within =
    chosen (In bound) (nat_le until now) (Terminated, TimedOut) _ (λ _. tt) (λ e. proceeding_within bound again until now event within (le_false until now e))
row_within bound (Completed until) now event within = chosen (In bound) (nat_le until now) (Terminated, Nothing) (Completed until, Nothing) (λ _. tt) (λ _. within)
row_within bound Terminated now event within = tt

pub run_within : (bound : ℕ) (state : ClientRequest) (happened : List (ℕ × ClientEvent)) → IsWithin bound state → IsWithin bound (state_after row state happened)
run_within bound state [] within = within
run_within bound state (happening ∷ happened) within = run_within bound (row state happening.0 happening.1).0 happened (row_within bound state happening.0 happening.1 within)

pub over : (bound : ℕ) (state : ClientRequest) (now : ℕ) (event : ClientEvent) → IsWithin bound state → bound + 5000 ≤ now → (row state now event).0 ≡ Terminated
over bound (Trying again pause until) now event within late = let due : nat_le until now ≡ true = le_true until now (omega (arith, within)) in rw due refl
over bound (Proceeding again until) now event within late = let due : nat_le until now ≡ true = le_true until now (omega (arith, within)) in rw due refl
over bound (Completed until) now event within late = let due : nat_le until now ≡ true = le_true until now (omega (arith, within)) in rw due refl
over bound Terminated now event within late = refl

pub request_ends : RequestEnds
request_ends sent now happened event late =
    over (sent + 32000) (state_after row (begun sent) happened) now event (run_within (sent + 32000) (begun sent) happened (omega arith)) late

-- ---- one outcome is told

-- the outcome of what waited
abbrev pub Tells : ClientRequest × ClientAction → Type 0
Tells r = one_if (tells_outcome r.1) + one_if (is_waiting r.0) ≡ 1

abbrev pub Told : ClientRequest × ClientAction → Type 0
Told r = one_if (tells_outcome r.1) + one_if (is_waiting r.0) ≡ 0

pub answered_tells : (again until now status : ℕ) → Tells (answered_row again until now status)
answered_tells again until now status =
    chosen Tells (nat_lt status 200) (Proceeding again until, Tell status) (Completed (later now t4), Tell status) (λ e. rw (not_above status e) refl) (λ e. rw (above status e) refl)

pub trying_tells : (again pause until now : ℕ) (event : ClientEvent) → Tells (trying_row again pause until now event)
trying_tells again pause until now TimePassed =
    chosen Tells (nat_lt now again) (Trying again pause until, Nothing) (Trying (later now (longer pause)) (longer pause) until, SendAgain) (λ _. refl) (λ _. refl)
trying_tells again pause until now (Answered status) = answered_tells again until now status
trying_tells again pause until now NotSent = refl
trying_tells again pause until now Cancelled = refl

pub proceeding_tells : (again until now : ℕ) (event : ClientEvent) → Tells (proceeding_row again until now event)
proceeding_tells again until now TimePassed =
    chosen Tells (nat_lt now again) (Proceeding again until, Nothing) (Proceeding (later now t2) until, SendAgain) (λ _. refl) (λ _. refl)
proceeding_tells again until now (Answered status) = answered_tells again until now status
proceeding_tells again until now NotSent = refl
proceeding_tells again until now Cancelled = refl

pub row_tells : (state : ClientRequest) (now : ℕ) (event : ClientEvent)
    → one_if (tells_outcome (row state now event).1) + one_if (is_waiting (row state now event).0) ≡ one_if (is_waiting state)
row_tells (Trying again pause until) now event = chosen Tells (nat_le until now) (Terminated, TimedOut) _ (λ _. refl) (λ _. trying_tells again pause until now event)
row_tells (Proceeding again until) now event = chosen Tells (nat_le until now) (Terminated, TimedOut) _ (λ _. refl) (λ _. proceeding_tells again until now event)
row_tells (Completed until) now event = chosen Told (nat_le until now) (Terminated, Nothing) (Completed until, Nothing) (λ _. refl) (λ _. refl)
row_tells Terminated now event = refl

pub run_tells : (state : ClientRequest) (happened : List (ℕ × ClientEvent))
    → count_of tells_outcome (actions_of row state happened) + one_if (is_waiting (state_after row state happened)) ≡ one_if (is_waiting state)
run_tells state [] = omega arith
run_tells state (happening ∷ happened) =
    let next : ClientRequest = (row state happening.0 happening.1).0 in
    count_more (one_if (tells_outcome (row state happening.0 happening.1).1)) _ _ _ _ (row_tells state happening.0 happening.1) (run_tells next happened)

pub request_tells_once : RequestTellsOnce
request_tells_once sent happened = run_tells (begun sent) happened

-- ---- it is sent again at its moments

-- where it waits, Timer E is due a pause after the last time at least
abbrev pub Sends : ℕ → ℕ → ClientRequest → Type 0
Sends last pause (Trying again wait until) = (again ≡ min (last + pause) (2 ^ 64 - 1)) × (wait ≡ pause) × (pause ≤ t2) × (until ≤ 2 ^ 64 - 1)
Sends last pause (Proceeding again until) = (min (last + pause) (2 ^ 64 - 1) ≤ again) × (pause ≤ t2) × (until ≤ 2 ^ 64 - 1)
Sends last pause (Completed until) = Unit {0}
Sends last pause Terminated = Unit {0}

-- what was done at a moment is a sending that is in time, or none
abbrev pub SendsSo : Bool → ℕ → ℕ → ℕ → ClientRequest → Type 0
SendsSo true last pause now state = (last + pause ≤ now) × Sends now (min (pause + pause) t2) state
SendsSo false last pause now state = Sends last pause state

abbrev pub SendsOn : ℕ → ℕ → ℕ → ClientRequest × ClientAction → Type 0
SendsOn last pause now r = SendsSo (is_sent_again r.1) last pause now r.0

pub answered_sends : (last pause again until now status : ℕ) → Sends last pause (Proceeding again until) → SendsOn last pause now (answered_row again until now status)
answered_sends last pause again until now status sends =
    chosen (SendsOn last pause now) (nat_lt status 200) (Proceeding again until, Tell status) (Completed (later now t4), Tell status) (λ _. sends) (λ _. tt)

pub trying_sends : (last pause again wait until now : ℕ) (event : ClientEvent) → Sends last pause (Trying again wait until) → now < until
    → SendsOn last pause now (trying_row again wait until now event)
trying_sends last pause again wait until now TimePassed sends early =
    chosen (SendsOn last pause now) (nat_lt now again) (Trying again wait until, Nothing) (Trying (later now (longer wait)) (longer wait) until, SendAgain)
    (λ _. sends)
    (λ e. let due : again ≤ now = lt_false now again e in
    (omega (arith, sends.0, sends.3), (omega (arith, sends.1, sends.2), omega (arith, sends.1, sends.2), omega arith, sends.3)))
trying_sends last pause again wait until now (Answered status) sends early = answered_sends last pause again until now status (omega (arith, sends.0), sends.2, sends.3)
trying_sends last pause again wait until now NotSent sends early = tt
trying_sends last pause again wait until now Cancelled sends early = sends

pub proceeding_sends : (last pause again until now : ℕ) (event : ClientEvent) → Sends last pause (Proceeding again until) → now < until
    → SendsOn last pause now (proceeding_row again until now event)
proceeding_sends last pause again until now TimePassed sends early =
    chosen (SendsOn last pause now) (nat_lt now again) (Proceeding again until, Nothing) (Proceeding (later now t2) until, SendAgain)
    (λ _. sends)
    (λ e. let due : again ≤ now = lt_false now again e in (omega (arith, sends.0, sends.2), (omega arith, omega arith, sends.2)))
proceeding_sends last pause again until now (Answered status) sends early = answered_sends last pause again until now status sends
proceeding_sends last pause again until now NotSent sends early = tt
proceeding_sends last pause again until now Cancelled sends early = sends

pub row_sends : (last pause : ℕ) (state : ClientRequest) (now : ℕ) (event : ClientEvent) → Sends last pause state → SendsOn last pause now (row state now event)
row_sends last pause (Trying again wait until) now event sends =
    chosen (SendsOn last pause now) (nat_le until now) (Terminated, TimedOut) _ (λ _. tt) (λ e. trying_sends last pause again wait until now event sends (le_false until now e))
row_sends last pause (Proceeding again until) now event sends =
    chosen (SendsOn last pause now) (nat_le until now) (Terminated, TimedOut) _ (λ _. tt) (λ e. proceeding_sends last pause again until now event sends (le_false until now e))
row_sends last pause (Completed until) now event sends = chosen (SendsOn last pause now) (nat_le until now) (Terminated, Nothing) (Completed until, Nothing) (λ _. tt) (λ _. tt)
row_sends last pause Terminated now event sends = tt

pub by : (b : Bool) (last pause now : ℕ) (state : ClientRequest) → SendsSo b last pause now state
    → Goes b (Sends last pause state) ((last + pause ≤ now) × Sends now (min (pause + pause) t2) state)
by true last pause now state sends = sends
by false last pause now state sends = sends

pub run_sends : (last pause : ℕ) (state : ClientRequest) (happened : List (ℕ × ClientEvent)) → Sends last pause state
    → ApartGrowing last pause (moments_of is_sent_again (actions_of row state happened))
run_sends last pause state [] sends = tt
run_sends last pause state (happening ∷ happened) sends =
    let next : ClientRequest = (row state happening.0 happening.1).0 in
    onward_growing (is_sent_again (row state happening.0 happening.1).1) last pause happening.0 (moments_of is_sent_again (actions_of row next happened)) (Sends last pause next) (Sends happening.0 (min (pause + pause) t2) next)
    (by (is_sent_again (row state happening.0 happening.1).1) last pause happening.0 next (row_sends last pause state happening.0 happening.1 sends))
    (run_sends last pause next happened) (run_sends happening.0 (min (pause + pause) t2) next happened)

pub request_is_sent_apart : RequestIsSentApart
request_is_sent_apart sent happened = run_sends sent 500 (begun sent) happened (refl, refl, omega arith, omega arith)

-- ---- rest

pub request_rests : RequestRests
request_rests (Trying again pause until) now due e early =
    let at : min again until ≡ due = cc in
    let on : nat_le until now ≡ false = le_off until now (omega arith) in
    let soon : nat_lt now again ≡ true = lt_true now again (omega arith) in rw (on, soon) refl
request_rests (Proceeding again until) now due e early =
    let at : min again until ≡ due = cc in
    let on : nat_le until now ≡ false = le_off until now (omega arith) in
    let soon : nat_lt now again ≡ true = lt_true now again (omega arith) in rw (on, soon) refl
request_rests (Completed until) now due e early = let at : until ≡ due = cc in let on : nat_le until now ≡ false = le_off until now (omega arith) in rw on refl
request_rests Terminated now due e early = cc
