-- When a tick is due: the first moment at which it may give something or change the call. (That timers act in ticks alone,
-- and where no packet waits, and the pace are this project's profile.)
use Rattle.std.specs.Prelude.{◌≡◌, ◌≢◌, ◌⊎◌, ℕ, ◌<◌, ◌^◌, true, false, Option, None, IsSome, if◌then◌else◌}
use Rattle.fax_timers.specs.Moments.{is_due, on_clock}
use Rattle.fax_timers.specs.Paces.{allowed_from}
use Rattle.fax_jobs.specs.Jobs.{JobValue}
use Rattle.fax_call.specs.declared.state.State.{State}
use Rattle.fax_call.specs.declared.state.State.TheVariants.{Idle, AwaitDis, AwaitCfr, AwaitMcf, Closing}
use Rattle.fax_call.specs.Writings.{Writing}
use Rattle.fax_call.specs.Replies.{waits}
use Rattle.fax_call.specs.Calls.{CallerCore, TickResult, ticked}

-- where no packet waits: Await DIS, T1; Await CFR and Await MCF, T4
abbrev pub timer_of : State → (t1 : Option ℕ) → (t4 : Option ℕ) → Option ℕ
timer_of Idle t1 t4 = None
timer_of (Closing outcome) t1 t4 = None
timer_of AwaitDis t1 t4 = t1
timer_of (AwaitCfr dis dcs) t1 t4 = t4
timer_of (AwaitMcf dis dcs) t1 t4 = t4

-- where packets wait, the moment from which on the pace lets one through
abbrev pub due_at : CallerCore → Option ℕ
due_at a =
    if waits a.waiting then on_clock (allowed_from a.pace.last) else timer_of a.state a.t1 a.t4

-- a tick that gives nothing and changes nothing
abbrev pub untouched : CallerCore → TickResult
untouched a = record { core = a; given = None }

-- no tick before that moment does anything
abbrev pub RestsBefore : Type 0
RestsBefore = (writes : Writing) (job : JobValue) (a : CallerCore) (now : ℕ)
    → now < 2 ^ 64 → is_due (due_at a) now ≡ false → ticked writes job a now ≡ untouched a

-- and from it on a tick does something: it gives a packet, or it leaves another core
abbrev pub ActsFrom : Type 0
ActsFrom =
    (writes : Writing) (job : JobValue) (a : CallerCore) (now : ℕ) → is_due (due_at a) now ≡ true
    → IsSome (ticked writes job a now).given ⊎ ((ticked writes job a now).core ≢ a)
