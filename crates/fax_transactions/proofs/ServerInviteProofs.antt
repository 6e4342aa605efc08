-- The laws of the server transaction of an INVITE, step by step.
use Rattle.std.proofs.Common.{◌≡◌, ℕ, ◌+◌, ◌≤◌, ◌<◌, min, true, false, nat_le, nat_lt, List, [], ◌∷◌, refl, arith}
use Rattle.fax_transactions.specs.declared.server.ServerAction.{ServerAction}
use Rattle.fax_transactions.specs.declared.server.ServerAction.TheVariants.{Nothing, Send, SendAgain, TimedOut, Unacknowledged}
use Rattle.fax_transactions.specs.declared.server.ServerEvent.{ServerEvent}
use Rattle.fax_transactions.specs.declared.server.ServerEvent.TheVariants.{TimePassed, Repeated, Answered, Acknowledged, NotSent}
use Rattle.fax_transactions.specs.declared.server_invite.ServerInvite.{ServerInvite}
use Rattle.fax_transactions.specs.declared.server_invite.ServerInvite.TheVariants.{Proceeding, Completed, Confirmed, Terminated}
use Rattle.fax_transactions.specs.Runs.{actions_of, count_of, state_after}
use Rattle.fax_transactions.specs.ServerInvites.{answered_row, begun, completed_row, proceeding_row, row}
use Rattle.fax_transactions.specs.ServerLaws.{is_new, InviteEnds, InviteIsAnsweredOnce, InviteRepeatsAreAnswered, InviteRests}
use Rattle.fax_transactions.specs.Spans.{t1, timeout, later, longer}
use Rattle.fax_transactions.proofs.RunProofs.{chosen, le_false, le_off, le_true, lt_off, lt_true}

-- ---- it ends

-- it ends by a bound, or Timers H and I after it
abbrev pub IsWithin : ℕ → ServerInvite → Type 0
IsWithin bound (Proceeding until) = until ≤ bound
IsWithin bound (Completed again pause until) = until ≤ bound + 32000
IsWithin bound (Confirmed until) = until ≤ bound + 32000 + 5000
IsWithin bound Terminated = Unit {0}

abbrev pub In : ℕ → ServerInvite × ServerAction → Type 0
In bound r = IsWithin bound r.0

pub answered_within : (bound until now status : ℕ) → until ≤ bound → now < until → In bound (answered_row until now status)
answered_within bound until now status within early =
    chosen (In bound) (nat_lt status 200) (Proceeding until, Send) _ (λ _. within)
    (λ _. chosen (In bound) (nat_lt status 300) (Terminated, Send) (Completed (later now t1) t1 (later now timeout), Send) (λ _. tt) (λ _. omega arith))

pub proceeding_within : (bound until now : ℕ) (event : ServerEvent) → until ≤ bound → now < until → In bound (proceeding_row until now event)
proceeding_within bound until now Repeated within early = within
proceeding_within bound until now (Answered status) within early = answered_within bound until now status within early
proceeding_within bound until now NotSent within early = tt
proceeding_within bound until now TimePassed within early = within
proceeding_within bound until now Acknowledged within early = within

pub completed_within : (bound again pause until now : ℕ) (event : ServerEvent) → until ≤ bound + 32000 → now < until → In bound (completed_row again pause until now event)
completed_within bound again pause until now TimePassed within early =
    chosen (In bound) (nat_lt now again) (Completed again pause until, Nothing) (Completed (later now (longer pause)) (longer pause) until, SendAgain) (λ _. within) (λ _. within)
completed_within bound again pause until now Repeated within early = within
completed_within bound again pause until now (Answered status) within early = within
completed_within bound again pause until now Acknowledged within early = omega arith
completed_within bound again pause until now NotSent within early = tt

pub row_within : (bound : ℕ) (state : ServerInvite) (now : ℕ) (event : ServerEvent) → IsWithin bound state → IsWithin bound (row state now event).0
row_within bound (Proceeding until) now event within =
    chosen (In bound) (nat_le until now) (Terminated, TimedOut) _ (λ _. tt) (λ e. proceeding_within bound until now event within (le_false until now e))
row_within bound (Completed again pause until) now event within =
    chosen (In bound) (nat_le until now) (Terminated, Unacknowledged) _ (λ _. tt) (λ e. completed_within bound again pause until now event within (le_false until now e))
row_within bound (Confirmed until) now event within = chosen (In bound) (nat_le until now) (Terminated, Nothing) (Confirmed until, Nothing) (λ _. tt) (λ _. within)
row_within bound Terminated now event within = tt

pub run_within : (bound : ℕ) (state : ServerInvite) (happened : List (ℕ × ServerEvent)) → IsWithin bound state → IsWithin bound (state_after row state happened)
run_within bound state [] within = within
run_within bound state (happening ∷ happened) within = run_within bound (row state happening.0 happening.1).0 happened (row_within bound state happening.0 happening.1 within)

pub over : (bound : ℕ) (state : ServerInvite) (now : ℕ) (event : ServerEvent) → IsWithin bound state → bound + 32000 + 5000 ≤ now → (row state now event).0 ≡ Terminated
over bound (Proceeding until) now event within late = let due : nat_le until now ≡ true = le_true until now (omega (arith, within)) in rw due refl
over bound (Completed again pause until) now event within late = let due : nat_le until now ≡ true = le_true until now (omega (arith, within)) in rw due refl
over bound (Confirmed until) now event within late = let due : nat_le until now ≡ true = le_true until now (omega (arith, within)) in rw due refl
over bound Terminated now event within late = refl

pub invite_ends : InviteEnds
invite_ends limit now happened event late = over limit (state_after row (begun limit) happened) now event (run_within limit (begun limit) happened (omega arith)) late

-- ---- it is answered once

-- no final answer is waited for
abbrev pub IsSettled : ServerInvite → Type 0
IsSettled (Proceeding until) = ⊥
IsSettled (Completed again pause until) = Unit {0}
IsSettled (Confirmed until) = Unit {0}
IsSettled Terminated = Unit {0}

-- nothing new is sent, and none is waited for
abbrev pub Settles : ServerInvite × ServerAction → Type 0
Settles r = (is_new r.1 ≡ false) × IsSettled r.0

pub completed_settles : (again pause until now : ℕ) (event : ServerEvent) → Settles (completed_row again pause until now event)
completed_settles again pause until now TimePassed =
    chosen Settles (nat_lt now again) (Completed again pause until, Nothing) (Completed (later now (longer pause)) (longer pause) until, SendAgain) (λ _. (refl, tt)) (λ _. (refl, tt))
completed_settles again pause until now Repeated = (refl, tt)
completed_settles again pause until now (Answered status) = (refl, tt)
completed_settles again pause until now Acknowledged = (refl, tt)
completed_settles again pause until now NotSent = (refl, tt)

pub row_settles : (state : ServerInvite) (now : ℕ) (event : ServerEvent) → IsSettled state → Settles (row state now event)
row_settles (Proceeding until) now event settled = absurd settled
row_settles (Completed again pause until) now event settled =
    chosen Settles (nat_le until now) (Terminated, Unacknowledged) _ (λ _. (refl, tt)) (λ _. completed_settles again pause until now event)
row_settles (Confirmed until) now event settled = chosen Settles (nat_le until now) (Terminated, Nothing) (Confirmed until, Nothing) (λ _. (refl, tt)) (λ _. (refl, tt))
row_settles Terminated now event settled = (refl, tt)

pub run_settles : (state : ServerInvite) (happened : List (ℕ × ServerEvent)) → IsSettled state → count_of is_new (actions_of row state happened) ≡ 0
run_settles state [] settled = refl
run_settles state (happening ∷ happened) settled =
    let step : Settles (row state happening.0 happening.1) = row_settles state happening.0 happening.1 settled in
    rw (step.0, run_settles (row state happening.0 happening.1).0 happened step.1) refl

pub final_settles : (state : ServerInvite) (now status : ℕ) → 200 ≤ status → (row state now (Answered status)).1 ≡ Send → IsSettled (row state now (Answered status)).0
final_settles (Proceeding until) now status final sent =
    chosen (λ (r : ServerInvite × ServerAction). IsSettled r.0) (nat_le until now) (Terminated, TimedOut) _ (λ _. tt)
    (λ _. let high : nat_lt status 200 ≡ false = lt_off status 200 final in
    rw high (chosen (λ (r : ServerInvite × ServerAction). IsSettled r.0) (nat_lt status 300) (Terminated, Send) (Completed (later now t1) t1 (later now timeout), Send) (λ _. tt) (λ _. tt)))
final_settles (Completed again pause until) now status final sent = (row_settles (Completed again pause until) now (Answered status) tt).1
final_settles (Confirmed until) now status final sent = (row_settles (Confirmed until) now (Answered status) tt).1
final_settles Terminated now status final sent = tt

pub invite_is_answered_once : InviteIsAnsweredOnce
invite_is_answered_once state now status happened final sent = run_settles (row state now (Answered status)).0 happened (final_settles state now status final sent)

-- ---- repeats, and rest

pub invite_repeats_are_answered : InviteRepeatsAreAnswered
invite_repeats_are_answered (Proceeding until) now on = let early : nat_le until now ≡ false = le_off until now on in rw early refl
invite_repeats_are_answered (Completed again pause until) now on = let early : nat_le until now ≡ false = le_off until now on in rw early refl
invite_repeats_are_answered (Confirmed until) now on = absurd on
invite_repeats_are_answered Terminated now on = absurd on

pub invite_rests : InviteRests
invite_rests (Proceeding until) now due e early = let at : until ≡ due = cc in let on : nat_le until now ≡ false = le_off until now (omega arith) in rw on refl
invite_rests (Completed again pause until) now due e early =
    let at : min again until ≡ due = cc in
    let on : nat_le until now ≡ false = le_off until now (omega arith) in
    let soon : nat_lt now again ≡ true = lt_true now again (omega arith) in rw (on, soon) refl
invite_rests (Confirmed until) now due e early = let at : until ≡ due = cc in let on : nat_le until now ≡ false = le_off until now (omega arith) in rw on refl
invite_rests Terminated now due e early = cc
