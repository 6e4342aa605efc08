-- The laws of a session's timer, step by step.
use Rattle.std.proofs.Common.{◌≡◌, ℕ, ◌+◌, ◌*◌, ◌/◌, ◌≤◌, ◌<◌, min, Bool, true, false, nat_le, List, [], ◌∷◌, refl, ap, ◌∙◌, arith}
use Rattle.fax_dialogs.specs.declared.refresher.Refresher.{Refresher}
use Rattle.fax_dialogs.specs.declared.refresher.Refresher.TheVariants.{We, They}
use Rattle.fax_dialogs.specs.declared.session_timer.SessionTimer.{SessionTimer}
use Rattle.fax_dialogs.specs.declared.session_timer.SessionTimer.TheVariants.{Off, Refreshing, Waiting}
use Rattle.fax_dialogs.specs.declared.session_timer.TimerAction.{TimerAction}
use Rattle.fax_dialogs.specs.declared.session_timer.TimerAction.TheVariants.{Nothing, Refresh, Expire}
use Rattle.fax_dialogs.specs.declared.session_timer.TimerEvent.{TimerEvent}
use Rattle.fax_dialogs.specs.declared.session_timer.TimerEvent.TheVariants.{TimePassed, Agreed, NotAgreed}
use Rattle.fax_dialogs.specs.TimerLaws.{expires, is_on, is_time, refreshes, EndIsToldOnce, RefreshedOnce, RefreshIsDue, TimeAlone, TimerExpires, TimerRests}
use Rattle.fax_dialogs.specs.Timers.{agreed, next_due, refreshing_row, row}
use Rattle.fax_transactions.specs.Runs.{actions_of, count_of, one_if, state_after}
use Rattle.fax_transactions.proofs.RunProofs.{chosen, count_more, le_off, le_true}

-- ---- the end

abbrev pub EndsBy : ℕ → SessionTimer → Type 0
EndsBy bound Off = Unit {0}
EndsBy bound (Refreshing at until) = until ≤ bound
EndsBy bound (Waiting until) = until ≤ bound

abbrev pub E : ℕ → SessionTimer × TimerAction → Type 0
E bound r = EndsBy bound r.0

pub row_ends : (bound : ℕ) (state : SessionTimer) (now : ℕ) (event : TimerEvent) → is_time event ≡ true → EndsBy bound state → E bound (row state now event)
row_ends bound Off now TimePassed time ends = tt
row_ends bound (Refreshing at until) now TimePassed time ends =
    chosen (E bound) (nat_le until now) (Off, Expire) _ (λ _. tt)
    (λ _. chosen (E bound) (nat_le at now) (Waiting until, Refresh) (Refreshing at until, Nothing) (λ _. ends) (λ _. ends))
row_ends bound (Waiting until) now TimePassed time ends = chosen (E bound) (nat_le until now) (Off, Expire) (Waiting until, Nothing) (λ _. tt) (λ _. ends)
row_ends bound state now (Agreed seconds refresher) time ends = cc
row_ends bound state now NotAgreed time ends = cc

pub run_ends : (bound : ℕ) (state : SessionTimer) (happened : List (ℕ × TimerEvent)) → TimeAlone happened → EndsBy bound state → EndsBy bound (state_after row state happened)
run_ends bound state [] time ends = ends
run_ends bound state (happening ∷ happened) time ends =
    run_ends bound (row state happening.0 happening.1).0 happened time.1 (row_ends bound state happening.0 happening.1 time.0 ends)

pub off_by : (bound : ℕ) (state : SessionTimer) (now : ℕ) → EndsBy bound state → bound ≤ now → (row state now TimePassed).0 ≡ Off
off_by bound Off now ends late = refl
off_by bound (Refreshing at until) now ends late = let due : nat_le until now ≡ true = le_true until now (omega (arith, ends)) in rw due refl
off_by bound (Waiting until) now ends late = let due : nat_le until now ≡ true = le_true until now (omega (arith, ends)) in rw due refl

pub agreed_ends : (now seconds : ℕ) (refresher : Refresher) → EndsBy (now + 1000 * seconds) (agreed now seconds refresher)
agreed_ends now seconds We = omega arith
agreed_ends now seconds They = omega arith

pub timer_expires : TimerExpires
timer_expires now seconds end refresher happened time late =
    off_by (now + 1000 * seconds) (state_after row (agreed now seconds refresher) happened) end
    (run_ends (now + 1000 * seconds) (agreed now seconds refresher) happened time (agreed_ends now seconds refresher)) late

-- ---- told once

-- what is told, and what is on after it, is what was on before
abbrev pub Keeps : Bool → SessionTimer × TimerAction → Type 0
Keeps on r = one_if (expires r.1) + one_if (is_on r.0) ≡ one_if on

pub row_keeps : (state : SessionTimer) (now : ℕ) (event : TimerEvent) → is_time event ≡ true → Keeps (is_on state) (row state now event)
row_keeps Off now TimePassed time = refl
row_keeps (Refreshing at until) now TimePassed time =
    chosen (Keeps true) (nat_le until now) (Off, Expire) _ (λ _. refl)
    (λ _. chosen (Keeps true) (nat_le at now) (Waiting until, Refresh) (Refreshing at until, Nothing) (λ _. refl) (λ _. refl))
row_keeps (Waiting until) now TimePassed time = chosen (Keeps true) (nat_le until now) (Off, Expire) (Waiting until, Nothing) (λ _. refl) (λ _. refl)
row_keeps state now (Agreed seconds refresher) time = cc
row_keeps state now NotAgreed time = cc

pub run_keeps :
    (state : SessionTimer) (happened : List (ℕ × TimerEvent)) → TimeAlone happened
    → count_of expires (actions_of row state happened) + one_if (is_on (state_after row state happened)) ≡ one_if (is_on state)
run_keeps state [] time = omega arith
run_keeps state (happening ∷ happened) time =
    count_more (one_if (expires (row state happening.0 happening.1).1)) (count_of expires (actions_of row (row state happening.0 happening.1).0 happened))
    (one_if (is_on (state_after row (row state happening.0 happening.1).0 happened))) (one_if (is_on (row state happening.0 happening.1).0)) (one_if (is_on state))
    (row_keeps state happening.0 happening.1 time.0) (run_keeps (row state happening.0 happening.1).0 happened time.1)

pub agreed_on : (now seconds : ℕ) (refresher : Refresher) → is_on (agreed now seconds refresher) ≡ true
agreed_on now seconds We = refl
agreed_on now seconds They = refl

pub end_is_told_once : EndIsToldOnce
end_is_told_once now seconds refresher happened time = run_keeps (agreed now seconds refresher) happened time ∙ ap one_if (agreed_on now seconds refresher)

-- ---- refreshed once

-- a refresh is still to come
abbrev pub is_to_refresh : SessionTimer → Bool
is_to_refresh Off = false
is_to_refresh (Refreshing at until) = true
is_to_refresh (Waiting until) = false

abbrev pub Spends : Bool → SessionTimer × TimerAction → Type 0
Spends left r = one_if (refreshes r.1) + one_if (is_to_refresh r.0) ≤ one_if left

pub row_spends : (state : SessionTimer) (now : ℕ) (event : TimerEvent) → is_time event ≡ true → Spends (is_to_refresh state) (row state now event)
row_spends Off now TimePassed time = omega arith
row_spends (Refreshing at until) now TimePassed time =
    chosen (Spends true) (nat_le until now) (Off, Expire) _ (λ _. omega arith)
    (λ _. chosen (Spends true) (nat_le at now) (Waiting until, Refresh) (Refreshing at until, Nothing) (λ _. omega arith) (λ _. omega arith))
row_spends (Waiting until) now TimePassed time = chosen (Spends false) (nat_le until now) (Off, Expire) (Waiting until, Nothing) (λ _. omega arith) (λ _. omega arith)
row_spends state now (Agreed seconds refresher) time = cc
row_spends state now NotAgreed time = cc

pub add_spent : (one rest after before : ℕ) → one + after ≤ before → rest ≤ after → one + rest ≤ before
add_spent one rest after before first second = omega arith

pub run_spends :
    (state : SessionTimer) (happened : List (ℕ × TimerEvent)) → TimeAlone happened → count_of refreshes (actions_of row state happened) ≤ one_if (is_to_refresh state)
run_spends state [] time = omega arith
run_spends state (happening ∷ happened) time =
    add_spent (one_if (refreshes (row state happening.0 happening.1).1)) (count_of refreshes (actions_of row (row state happening.0 happening.1).0 happened))
    (one_if (is_to_refresh (row state happening.0 happening.1).0)) (one_if (is_to_refresh state))
    (row_spends state happening.0 happening.1 time.0) (run_spends (row state happening.0 happening.1).0 happened time.1)

pub one_most : (left : Bool) → one_if left ≤ 1
one_most true = omega arith
one_most false = omega arith

pub le_over : (a b c : ℕ) → a ≤ b → b ≤ c → a ≤ c
le_over a b c first second = omega arith

pub refreshed_once : RefreshedOnce
refreshed_once now seconds refresher happened time =
    le_over (count_of refreshes (actions_of row (agreed now seconds refresher) happened)) (one_if (is_to_refresh (agreed now seconds refresher))) 1
    (run_spends (agreed now seconds refresher) happened time) (one_most (is_to_refresh (agreed now seconds refresher)))

pub refresh_is_due : RefreshIsDue
refresh_is_due at until now due early =
    let on : nat_le until now ≡ false = le_off until now early in let is_due : nat_le at now ≡ true = le_true at now due in rw (on, is_due) refl

-- ---- rest

pub timer_rests : TimerRests
timer_rests Off now due e early = cc
timer_rests (Refreshing at until) now due e early =
    let same : min at until ≡ due = cc in
    let on : nat_le until now ≡ false = le_off until now (omega arith) in
    let soon : nat_le at now ≡ false = le_off at now (omega arith) in rw (on, soon) refl
timer_rests (Waiting until) now due e early =
    let same : until ≡ due = cc in let on : nat_le until now ≡ false = le_off until now (omega arith) in rw on refl
