-- The laws of the server transaction of a request that is neither an INVITE nor an ACK, step by step.
use Rattle.std.proofs.Common.{◌≡◌, ℕ, ◌+◌, ◌≤◌, ◌<◌, true, false, nat_le, nat_lt, List, [], ◌∷◌, refl, arith}
use Rattle.fax_transactions.specs.declared.server.ServerAction.{ServerAction}
use Rattle.fax_transactions.specs.declared.server.ServerAction.TheVariants.{Nothing, Send, TimedOut}
use Rattle.fax_transactions.specs.declared.server.ServerEvent.{ServerEvent}
use Rattle.fax_transactions.specs.declared.server.ServerEvent.TheVariants.{TimePassed, Repeated, Answered, Acknowledged, NotSent}
use Rattle.fax_transactions.specs.declared.server_request.ServerRequest.{ServerRequest}
use Rattle.fax_transactions.specs.declared.server_request.ServerRequest.TheVariants.{Trying, Proceeding, Completed, Terminated}
use Rattle.fax_transactions.specs.Runs.{actions_of, count_of, state_after}
use Rattle.fax_transactions.specs.ServerLaws.{is_new, RequestEnds, RequestIsAnsweredOnce, RequestRepeatsAreAnswered, RequestRests}
use Rattle.fax_transactions.specs.ServerRequests.{answered_row, begun, completed_row, proceeding_row, row, trying_row}
use Rattle.fax_transactions.specs.Spans.{timeout, later}
use Rattle.fax_transactions.proofs.RunProofs.{chosen, le_false, le_off, le_true, lt_off}

-- ---- it ends

-- it ends by a bound, or Timer J after it
abbrev pub IsWithin : ℕ → ServerRequest → Type 0
IsWithin bound (Trying until) = until ≤ bound
IsWithin bound (Proceeding until) = until ≤ bound
IsWithin bound (Completed until) = until ≤ bound + 32000
IsWithin bound Terminated = Unit {0}

abbrev pub In : ℕ → ServerRequest × ServerAction → Type 0
In bound r = IsWithin bound r.0

pub answered_within : (bound until now status : ℕ) → until ≤ bound → now < until → In bound (answered_row until now status)
answered_within bound until now status within early =
    chosen (In bound) (nat_lt status 200) (Proceeding until, Send) (Completed (later now timeout), Send) (λ _. within) (λ _. omega arith)

pub trying_within : (bound until now : ℕ) (event : ServerEvent) → until ≤ bound → now < until → In bound (trying_row until now event)
trying_within bound until now (Answered status) within early = answered_within bound until now status within early
trying_within bound until now TimePassed within early = within
trying_within bound until now Repeated within early = within
trying_within bound until now Acknowledged within early = within
trying_within bound until now NotSent within early = within

pub proceeding_within : (bound until now : ℕ) (event : ServerEvent) → until ≤ bound → now < until → In bound (proceeding_row until now event)
proceeding_within bound until now Repeated within early = within
proceeding_within bound until now (Answered status) within early = answered_within bound until now status within early
proceeding_within bound until now NotSent within early = tt
proceeding_within bound until now TimePassed within early = within
proceeding_within bound until now Acknowledged within early = within

pub completed_within : (bound until : ℕ) (event : ServerEvent) → until ≤ bound + 32000 → In bound (completed_row until event)
completed_within bound until Repeated within = within
completed_within bound until NotSent within = tt
completed_within bound until TimePassed within = within
completed_within bound until (Answered status) within = within
completed_within bound until Acknowledged within = within

pub row_within : (bound : ℕ) (state : ServerRequest) (now : ℕ) (event : ServerEvent) → IsWithin bound state → IsWithin bound (row state now event).0
row_within bound (Trying until) now event within =
    chosen (In bound) (nat_le until now) (Terminated, TimedOut) _ (λ _. tt) (λ e. trying_within bound until now event within (le_false until now e))
row_within bound (Proceeding until) now event within =
    chosen (In bound) (nat_le until now) (Terminated, TimedOut) _ (λ _. tt) (λ e. proceeding_within bound until now event within (le_false until now e))
row_within bound (Completed until) now event within =
    chosen (In bound) (nat_le until now) (Terminated, Nothing) _ (λ _. tt) (λ _. completed_within bound until event within)
row_within bound Terminated now event within = tt

pub run_within : (bound : ℕ) (state : ServerRequest) (happened : List (ℕ × ServerEvent)) → IsWithin bound state → IsWithin bound (state_after row state happened)
run_within bound state [] within = within
run_within bound state (happening ∷ happened) within = run_within bound (row state happening.0 happening.1).0 happened (row_within bound state happening.0 happening.1 within)

pub over : (bound : ℕ) (state : ServerRequest) (now : ℕ) (event : ServerEvent) → IsWithin bound state → bound + 32000 ≤ now → (row state now event).0 ≡ Terminated
over bound (Trying until) now event within late = let due : nat_le until now ≡ true = le_true until now (omega (arith, within)) in rw due refl
over bound (Proceeding until) now event within late = let due : nat_le until now ≡ true = le_true until now (omega (arith, within)) in rw due refl
over bound (Completed until) now event within late = let due : nat_le until now ≡ true = le_true until now (omega (arith, within)) in rw due refl
over bound Terminated now event within late = refl

pub request_ends : RequestEnds
request_ends limit now happened event late = over limit (state_after row (begun limit) happened) now event (run_within limit (begun limit) happened (omega arith)) late

-- ---- it is answered once

-- no final answer is waited for
abbrev pub IsSettled : ServerRequest → Type 0
IsSettled (Trying until) = ⊥
IsSettled (Proceeding until) = ⊥
IsSettled (Completed until) = Unit {0}
IsSettled Terminated = Unit {0}

-- nothing new is sent, and none is waited for
abbrev pub Settles : ServerRequest × ServerAction → Type 0
Settles r = (is_new r.1 ≡ false) × IsSettled r.0

pub completed_settles : (until : ℕ) (event : ServerEvent) → Settles (completed_row until event)
completed_settles until Repeated = (refl, tt)
completed_settles until NotSent = (refl, tt)
completed_settles until TimePassed = (refl, tt)
completed_settles until (Answered status) = (refl, tt)
completed_settles until Acknowledged = (refl, tt)

pub row_settles : (state : ServerRequest) (now : ℕ) (event : ServerEvent) → IsSettled state → Settles (row state now event)
row_settles (Trying until) now event settled = absurd settled
row_settles (Proceeding until) now event settled = absurd settled
row_settles (Completed until) now event settled = chosen Settles (nat_le until now) (Terminated, Nothing) _ (λ _. (refl, tt)) (λ _. completed_settles until event)
row_settles Terminated now event settled = (refl, tt)

pub run_settles : (state : ServerRequest) (happened : List (ℕ × ServerEvent)) → IsSettled state → count_of is_new (actions_of row state happened) ≡ 0
run_settles state [] settled = refl
run_settles state (happening ∷ happened) settled =
    let step : Settles (row state happening.0 happening.1) = row_settles state happening.0 happening.1 settled in
    rw (step.0, run_settles (row state happening.0 happening.1).0 happened step.1) refl

abbrev pub Final : ServerRequest × ServerAction → Type 0
Final r = IsSettled r.0

pub answered_final : (until now status : ℕ) → 200 ≤ status → Final (answered_row until now status)
answered_final until now status final = let high : nat_lt status 200 ≡ false = lt_off status 200 final in rw high tt

pub final_settles : (state : ServerRequest) (now status : ℕ) → 200 ≤ status → (row state now (Answered status)).1 ≡ Send → IsSettled (row state now (Answered status)).0
final_settles (Trying until) now status final sent = chosen Final (nat_le until now) (Terminated, TimedOut) _ (λ _. tt) (λ _. answered_final until now status final)
final_settles (Proceeding until) now status final sent = chosen Final (nat_le until now) (Terminated, TimedOut) _ (λ _. tt) (λ _. answered_final until now status final)
final_settles (Completed until) now status final sent = (row_settles (Completed until) now (Answered status) tt).1
final_settles Terminated now status final sent = tt

pub request_is_answered_once : RequestIsAnsweredOnce
request_is_answered_once state now status happened final sent = run_settles (row state now (Answered status)).0 happened (final_settles state now status final sent)

-- ---- repeats, and rest

pub request_repeats_are_answered : RequestRepeatsAreAnswered
request_repeats_are_answered (Trying until) now on = absurd on
request_repeats_are_answered (Proceeding until) now on = let early : nat_le until now ≡ false = le_off until now on in rw early refl
request_repeats_are_answered (Completed until) now on = let early : nat_le until now ≡ false = le_off until now on in rw early refl
request_repeats_are_answered Terminated now on = absurd on

pub request_rests : RequestRests
request_rests (Trying until) now due e early = let at : until ≡ due = cc in let on : nat_le until now ≡ false = le_off until now (omega arith) in rw on refl
request_rests (Proceeding until) now due e early = let at : until ≡ due = cc in let on : nat_le until now ≡ false = le_off until now (omega arith) in rw on refl
request_rests (Completed until) now due e early = let at : until ≡ due = cc in let on : nat_le until now ≡ false = le_off until now (omega arith) in rw on refl
request_rests Terminated now due e early = cc
