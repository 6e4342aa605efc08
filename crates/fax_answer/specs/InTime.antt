-- When T1, T2 and T4 are due, by what was heard and given. (ITU-T T.30, 5.4.3: T1 of 35 s from when the called machine
-- identifies itself, T2 of 6 s from what was heard or given last, T4 of 3 s from the end of the DIS. A timer is never set beyond
-- the last moment, 2^64 - 1 ms: this project's profile.)
use Rattle.std.specs.Prelude.{◌≡◌, ◌↔◌, ℕ, ◌<◌, ◌^◌, min, Bool, true, false, not, ◌&&◌, List, [], ◌∷◌, Option, Some, None, if◌then◌else◌}
use Rattle.fax_timers.specs.Moments.{is_due, moment_after}
use Rattle.fax_timers.specs.Spans as spans
use Rattle.fax_ifp.specs.Pieces as pieces
use Rattle.fax_answer.specs.declared.state.State.{State}
use Rattle.fax_answer.specs.declared.state.State.TheVariants.{Idle, Identify, Listen, Train, Page, Closing}
use Rattle.fax_answer.specs.Replies.{WaitingPacket, is_waiting}
use Rattle.fax_answer.specs.Calls.{AnswererCore, rung, ticked, CallEvent, Comes, Ticks, after_events}
use Rattle.fax_answer.specs.Due.{due_at, untouched}

-- the moment from which on the called machine identifies itself: the ring, and after EOM that of the tick that begins anew
abbrev pub since_by : (old new : State) → (now before : ℕ) → ℕ
since_by Identify new now before = before
since_by old Identify now before = now
since_by old new now before = before

abbrev pub identified_since : (begun : AnswererCore) → (start : ℕ) → List CallEvent → ℕ
identified_since begun start [] = start
identified_since begun start (Comes piece now read ∷ before) = identified_since begun start before
identified_since begun start (Ticks now ∷ before) =
    let a : AnswererCore = after_events begun before in
    since_by a.state (ticked a now).core.state now (identified_since begun start before)

-- the moment of the packet that was given last, that of the ring where none was
abbrev pub given_by : Option WaitingPacket → (now before : ℕ) → ℕ
given_by (Some w) now before = now
given_by None now before = before

abbrev pub last_given : (begun : AnswererCore) → (start : ℕ) → List CallEvent → ℕ
last_given begun start [] = start
last_given begun start (Comes piece now read ∷ before) = last_given begun start before
last_given begun start (Ticks now ∷ before) =
    given_by (ticked (after_events begun before) now).given now (last_given begun start before)

-- the moment of what was heard or given last: a packet that was given, or, where none waited, a frame, a signal that began or
-- octets of one
abbrev pub sounds : pieces.Piece → Bool
sounds (pieces.End whole) = false
sounds pieces.Gap = false
sounds piece = true

abbrev pub last_sound : (begun : AnswererCore) → (start : ℕ) → List CallEvent → ℕ
last_sound begun start [] = start
last_sound begun start (Comes piece now read ∷ before) =
    if not (is_waiting (after_events begun before).waiting) && sounds piece
    then now else last_sound begun start before
last_sound begun start (Ticks now ∷ before) =
    given_by (ticked (after_events begun before) now).given now (last_sound begun start before)

-- the timer of a state: T1 or T4 in Identify, whichever comes first; T2 in Listen, Train, Page and Again
abbrev pub timer_since : State → (identified given sound : ℕ) → Option ℕ
timer_since Idle identified given sound = None
timer_since Closing identified given sound = None
timer_since Identify identified given sound =
    Some (min (moment_after identified spans.t1) (moment_after given spans.t4))
timer_since state identified given sound = Some (moment_after sound spans.t2)

-- In every call, where no packet waits, the moment that is due next is just that one, and a tick before it gives nothing and
-- changes nothing: no timer acts before its time.
abbrev pub NoTimerIsEarly : Type 0
NoTimerIsEarly = (core : AnswererCore) (start : ℕ) (events : List CallEvent)
    → let begun : AnswererCore = rung core start in let a : AnswererCore = after_events begun events
    in let timer : Option ℕ = timer_since a.state (identified_since begun start events)
    (last_given begun start events) (last_sound begun start events) in a.waiting ≡ []
    → (due_at a ≡ timer)
    × ((now : ℕ) → now < 2 ^ 64 → is_due timer now ≡ false → ticked a now ≡ untouched a)

-- the timer at which a call is given up: T1 in Identify, T2 in Listen, Train and Page
abbrev pub gives_up_at : State → (identified sound : ℕ) → Option ℕ
gives_up_at Identify identified sound = Some (moment_after identified spans.t1)
gives_up_at Listen identified sound = Some (moment_after sound spans.t2)
gives_up_at (Train dcs) identified sound = Some (moment_after sound spans.t2)
gives_up_at (Page dcs) identified sound = Some (moment_after sound spans.t2)
gives_up_at state identified sound = None

-- In every call a tick gives the call up, with a DCN, exactly where that timer is due and no packet waits.
abbrev pub GivesUpInTime : Type 0
GivesUpInTime = (core : AnswererCore) (start now : ℕ) (events : List CallEvent)
    → let begun : AnswererCore = rung core start in let a : AnswererCore = after_events begun events
    in let timer : Option ℕ = gives_up_at a.state (identified_since begun start events)
    (last_sound begun start events) in (a.state ≡ Closing → ⊥)
    → ((ticked a now).core.state ≡ Closing) ↔ ((a.waiting ≡ []) × (is_due timer now ≡ true))
