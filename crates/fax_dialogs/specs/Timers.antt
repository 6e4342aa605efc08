-- The timer of a session (RFC 4028, 7.2, 9 and 10).
use Rattle.std.specs.Prelude.{ℕ, ◌-◌, ◌*◌, ◌/◌, min, nat_le, if◌then◌else◌, Option, None, Some}
use Rattle.fax_dialogs.specs.declared.refresher.Refresher.{Refresher}
use Rattle.fax_dialogs.specs.declared.refresher.Refresher.TheVariants.{We, They}
use Rattle.fax_dialogs.specs.declared.session_timer.SessionTimer.{SessionTimer}
use Rattle.fax_dialogs.specs.declared.session_timer.SessionTimer.TheVariants.{Off, Refreshing, Waiting}
use Rattle.fax_dialogs.specs.declared.session_timer.TimerAction.{TimerAction}
use Rattle.fax_dialogs.specs.declared.session_timer.TimerAction.TheVariants.{Nothing, Refresh, Expire}
use Rattle.fax_dialogs.specs.declared.session_timer.TimerEvent.{TimerEvent}
use Rattle.fax_dialogs.specs.declared.session_timer.TimerEvent.TheVariants.{TimePassed, Agreed, NotAgreed}
use Rattle.fax_transactions.specs.Spans.{later}

-- 10: a session that is not refreshed ends before its interval does, by 32 s or a third of it, whichever is less
abbrev pub expiry : ℕ → ℕ
expiry span = span - min (span / 3) 32000

-- 10: who refreshes does so at half the interval
abbrev pub agreed : ℕ → ℕ → Refresher → SessionTimer
agreed now seconds We =
    Refreshing (later now (1000 * seconds / 2)) (later now (expiry (1000 * seconds)))
agreed now seconds They = Waiting (later now (expiry (1000 * seconds)))

-- where nothing is due: each 2xx agrees on an interval anew, or on none
abbrev pub event_row : SessionTimer → ℕ → TimerEvent → SessionTimer × TimerAction
event_row state now TimePassed = (state, Nothing)
event_row state now (Agreed seconds refresher) = (agreed now seconds refresher, Nothing)
event_row state now NotAgreed = (Off, Nothing)

-- the refresh is due
abbrev pub refreshing_row : ℕ → ℕ → ℕ → TimerEvent → SessionTimer × TimerAction
refreshing_row at until now TimePassed =
    if nat_le at now then (Waiting until, Refresh) else (Refreshing at until, Nothing)
refreshing_row at until now other = event_row (Refreshing at until) now other

-- What happens at a moment: the next state, and what is to be done. What is due comes first: the end.
abbrev pub row : SessionTimer → ℕ → TimerEvent → SessionTimer × TimerAction
row Off now event = event_row Off now event
row (Refreshing at until) now event =
    if nat_le until now then (Off, Expire) else refreshing_row at until now event
row (Waiting until) now event =
    if nat_le until now then (Off, Expire) else event_row (Waiting until) now event

-- the moment from which something is due although nothing else happens
abbrev pub next_due : SessionTimer → Option ℕ
next_due Off = None
next_due (Refreshing at until) = Some (min at until)
next_due (Waiting until) = Some until
