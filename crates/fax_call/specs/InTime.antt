-- When T1 and T4 are due, by what was given and heard. (ITU-T T.30, 5.4.3: T1 of 35 s from when a DIS is awaited, T4 of 3 s from
-- the end of a training or a command. A timer is never set beyond the last moment, 2^64 - 1 ms: this project's profile.)
use Rattle.std.specs.Prelude.{◌≡◌, ℕ, ◌<◌, ◌^◌, false, List, [], ◌∷◌, Option, Some, None, option_map}
use Rattle.fax_timers.specs.Moments.{is_due, moment_after}
use Rattle.fax_timers.specs.Spans as spans
use Rattle.fax_jobs.specs.Jobs.{JobValue}
use Rattle.fax_call.specs.declared.state.State.{State}
use Rattle.fax_call.specs.declared.state.State.TheVariants.{AwaitDis, AwaitCfr, AwaitMcf}
use Rattle.fax_call.specs.Writings.{Writing}
use Rattle.fax_call.specs.Replies.{Packet}
use Rattle.fax_call.specs.Calls.{CallerCore, started, came, ticked, CallEvent, Comes, Ticks, after_events}
use Rattle.fax_call.specs.Due.{due_at, untouched}

-- the moment from which on a DIS is awaited: the start of the call, and after EOM that of its answer
abbrev pub since_by : (old new : State) → (now before : ℕ) → ℕ
since_by AwaitDis new now before = before
since_by old AwaitDis now before = now
since_by old new now before = before

abbrev pub awaited_since : Writing
    → JobValue → (begun : CallerCore) → (start : ℕ) → List CallEvent → ℕ
awaited_since writes job begun start [] = start
awaited_since writes job begun start (Comes piece now ∷ before) =
    let a : CallerCore = after_events writes job begun before in
    since_by a.state (came a piece now).state now (awaited_since writes job begun start before)
awaited_since writes job begun start (Ticks now ∷ before) =
    awaited_since writes job begun start before

-- the moment of the packet that was given last
abbrev pub last_by : Option Packet → (now : ℕ) → Option ℕ → Option ℕ
last_by (Some packet) now before = Some now
last_by None now before = before

abbrev pub last_given : Writing → JobValue → (begun : CallerCore) → List CallEvent → Option ℕ
last_given writes job begun [] = None
last_given writes job begun (Comes piece now ∷ before) = last_given writes job begun before
last_given writes job begun (Ticks now ∷ before) =
    last_by (ticked writes job (after_events writes job begun before) now).given
    now (last_given writes job begun before)

-- the timer of a state: T1 in Await DIS, T4 in Await CFR and Await MCF
abbrev pub timer_since : State → (awaited : ℕ) → (given : Option ℕ) → Option ℕ
timer_since AwaitDis awaited given = Some (moment_after awaited spans.t1)
timer_since (AwaitCfr dis dcs) awaited given = option_map (λ m. moment_after m spans.t4) given
timer_since (AwaitMcf dis dcs) awaited given = option_map (λ m. moment_after m spans.t4) given
timer_since state awaited given = None

-- In every call, where no packet waits, the moment that is due next is just that one, and a tick before it gives nothing and
-- changes nothing: no timer acts before its time.
abbrev pub NoTimerIsEarly : Type 0
NoTimerIsEarly =
    (writes : Writing) (job : JobValue) (core : CallerCore) (start : ℕ) (events : List CallEvent)
    → let begun : CallerCore = started core job start
    in let a : CallerCore = after_events writes job begun events
    in let timer : Option ℕ = timer_since a.state (awaited_since writes job begun start events)
    (last_given writes job begun events) in a.waiting ≡ [] → (due_at a ≡ timer)
    × ((now : ℕ) → now < 2 ^ 64 → is_due timer now ≡ false → ticked writes job a now ≡ untouched a)
