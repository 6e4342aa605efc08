-- When a tick is due: the first moment at which it may give something or change the call. (That timers act in ticks alone,
-- and where no packet waits, and the pace are this project's profile.)
use Rattle.std.specs.Prelude.{◌≡◌, ◌≢◌, ◌⊎◌, ℕ, ◌<◌, ◌^◌, true, false, Option, None, IsSome, if◌then◌else◌}
use Rattle.fax_timers.specs.Moments.{is_due, on_clock, earlier}
use Rattle.fax_timers.specs.Paces.{allowed_from}
use Rattle.fax_answer.specs.declared.state.State.{State}
use Rattle.fax_answer.specs.declared.state.State.TheVariants.{Idle, Identify, Closing}
use Rattle.fax_answer.specs.declared.timers.Timers.{Timers}
use Rattle.fax_answer.specs.Replies.{is_waiting}
use Rattle.fax_answer.specs.Calls.{AnswererCore, TickResult, ticked}

-- where no packet waits: Identify, T1 or T4, whichever comes first; Listen, Train, Page and Again, T2
abbrev pub timer_of : State → Timers → Option ℕ
timer_of Idle t = None
timer_of Closing t = None
timer_of Identify t = earlier t.t1 t.t4
timer_of state t = t.t2

-- where packets wait, the moment from which on the pace lets one through
abbrev pub due_at : AnswererCore → Option ℕ
due_at a =
    if is_waiting a.waiting then on_clock (allowed_from a.pace.last) else timer_of a.state a.timers

-- a tick that gives nothing and changes nothing
abbrev pub untouched : AnswererCore → TickResult
untouched a = record { core = a; given = None; ended = false }

-- no tick before that moment does anything
abbrev pub RestsBefore : Type 0
RestsBefore = (a : AnswererCore) (now : ℕ)
    → now < 2 ^ 64 → is_due (due_at a) now ≡ false → ticked a now ≡ untouched a

-- and from it on a tick does something: it gives a packet, or it leaves another core
abbrev pub ActsFrom : Type 0
ActsFrom = (a : AnswererCore) (now : ℕ)
    → is_due (due_at a) now ≡ true → IsSome (ticked a now).given ⊎ ((ticked a now).core ≢ a)
