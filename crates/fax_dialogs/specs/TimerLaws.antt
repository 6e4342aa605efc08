-- What holds of the timer of a session, whatever happens at whatever moments.
use Rattle.std.specs.Prelude.{◌≡◌, ℕ, ◌+◌, ◌*◌, ◌≤◌, ◌<◌, Bool, true, false, List, [], ◌∷◌, Some}
use Rattle.fax_dialogs.specs.declared.refresher.Refresher.{Refresher}
use Rattle.fax_dialogs.specs.declared.refresher.Refresher.TheVariants.{We}
use Rattle.fax_dialogs.specs.declared.session_timer.SessionTimer.{SessionTimer}
use Rattle.fax_dialogs.specs.declared.session_timer.SessionTimer.TheVariants.{Off, Refreshing, Waiting}
use Rattle.fax_dialogs.specs.declared.session_timer.TimerAction.{TimerAction}
use Rattle.fax_dialogs.specs.declared.session_timer.TimerAction.TheVariants.{Nothing, Refresh, Expire}
use Rattle.fax_dialogs.specs.declared.session_timer.TimerEvent.{TimerEvent}
use Rattle.fax_dialogs.specs.declared.session_timer.TimerEvent.TheVariants.{TimePassed, Agreed, NotAgreed}
use Rattle.fax_dialogs.specs.Timers.{agreed, next_due, row}
use Rattle.fax_transactions.specs.Runs.{actions_of, count_of, one_if, state_after}

-- nothing is agreed on: time passes alone
abbrev pub is_time : TimerEvent → Bool
is_time TimePassed = true
is_time other = false

abbrev pub TimeAlone : List (ℕ × TimerEvent) → Type 0
TimeAlone [] = Unit {0}
TimeAlone (happening ∷ happened) = (is_time happening.1 ≡ true) × TimeAlone happened

abbrev pub is_on : SessionTimer → Bool
is_on Off = false
is_on other = true

abbrev pub expires : TimerAction → Bool
expires Expire = true
expires other = false

abbrev pub refreshes : TimerAction → Bool
refreshes Refresh = true
refreshes other = false

-- A session that is not refreshed ends within its interval.
-- Ruled out: an end that moves on as we refresh in vain; one that counts from the refresh; none where the other end is to refresh.
abbrev pub TimerExpires : Type 0
TimerExpires = (now seconds end : ℕ) (refresher : Refresher) (happened : List (ℕ × TimerEvent))
    → TimeAlone happened → now + 1000 * seconds ≤ end
    → (row (state_after row (agreed now seconds refresher) happened) end TimePassed).0 ≡ Off

-- Its end is told once.
-- Ruled out: an end that is told again at each moment after it; one that is not told.
abbrev pub EndIsToldOnce : Type 0
EndIsToldOnce = (now seconds : ℕ) (refresher : Refresher) (happened : List (ℕ × TimerEvent))
    → TimeAlone happened → count_of expires (actions_of row (agreed now seconds refresher) happened)
    + one_if (is_on (state_after row (agreed now seconds refresher) happened)) ≡ 1

-- Each interval is refreshed once, at half of it, if time is told then, and by nobody but who is to.
-- Ruled out: a refresh at each moment after half the interval; one by the end that waits for it; none at all.
abbrev pub RefreshedOnce : Type 0
RefreshedOnce = (now seconds : ℕ) (refresher : Refresher) (happened : List (ℕ × TimerEvent))
    → TimeAlone happened
    → count_of refreshes (actions_of row (agreed now seconds refresher) happened) ≤ 1

abbrev pub RefreshIsDue : Type 0
RefreshIsDue = (at until now : ℕ)
    → at ≤ now → now < until → row (Refreshing at until) now TimePassed ≡ (Waiting until, Refresh)

-- Before what is due next, time changes nothing.
-- Ruled out: a refresh before half the interval; an end before its moment.
abbrev pub TimerRests : Type 0
TimerRests = (state : SessionTimer) (now due : ℕ)
    → next_due state ≡ Some due → now < due → row state now TimePassed ≡ (state, Nothing)
