-- How long a call lasts in which nothing more is heard, and what is given in it. (ITU-T T.30, 5.4.3 for T1, T2 and T4; the pace,
-- and that the DIS waits for T2 after an EOM, are this project's profile.)
use Rattle.std.specs.Prelude.{◌≡◌, ℕ, ◌+◌, ◌*◌, ◌<◌, ◌≤◌, false, not, ◌&&◌, List, [], ◌∷◌, length, Option, Some, None, if◌then◌else◌}
use Rattle.fax_timers.specs.Paces.{allowed_from}
use Rattle.fax_timers.specs.Spans as spans
use Rattle.fax_ifp.specs.Pieces as pieces
use Rattle.fax_answer.specs.declared.state.State.{State}
use Rattle.fax_answer.specs.declared.state.State.TheVariants.{Idle, Identify, Again, Closing}
use Rattle.fax_answer.specs.History.{PassesOver}
use Rattle.fax_answer.specs.Table.{Reading, decision}
use Rattle.fax_answer.specs.Replies.{WaitingPacket, is_preamble, is_waiting}
use Rattle.fax_answer.specs.Calls.{AnswererCore, rung, is_heard, ticked, CallEvent, Comes, Ticks, after_events}

-- The time until the packet after a packet may go out, at most: the span that the pace asks for, and so long as the next tick
-- may take to come.
abbrev pub packet_time : (gap : ℕ) → WaitingPacket → ℕ
packet_time gap w = gap + (if is_preamble w.packet then spans.longest_pause else spans.pace)

-- what waits, packet by packet
abbrev pub time_of : (gap : ℕ) → List WaitingPacket → ℕ
time_of gap [] = 0
time_of gap (w ∷ waiting) = packet_time gap w + time_of gap waiting

-- the moment of the last tick, `from` where there was none
abbrev pub last_tick : (from : ℕ) → List CallEvent → ℕ
last_tick from [] = from
last_tick from (Comes piece now read ∷ before) = last_tick from before
last_tick from (Ticks now ∷ before) = now

-- All that was heard and each tick so far came at that moment or before it.
abbrev pub AllUntil : (from : ℕ) → List CallEvent → Type 0
AllUntil from [] = Unit {0}
AllUntil from (Comes piece now read ∷ before) = (now ≤ from) × AllUntil from before
AllUntil from (Ticks now ∷ before) = (now ≤ from) × AllUntil from before

-- what comes is passed over, and sets no timer
abbrev pub IsPassedOver : Reading → AnswererCore → pieces.Piece → Type 0
IsPassedOver read a piece =
    (decision read a.state (is_waiting a.waiting) a.history piece ≡ PassesOver)
    × ((not (is_waiting a.waiting) && is_heard a.state piece) ≡ false)

-- Silence: nothing comes but this; and ticks come, each at most so many milliseconds after the one before, the first after
-- `from`.
abbrev pub IsSilence : (a : AnswererCore) → (gap from : ℕ) → List CallEvent → Type 0
IsSilence a gap from [] = Unit {0}
IsSilence a gap from (Comes piece now read ∷ before) =
    IsPassedOver read (after_events a before) piece × IsSilence a gap from before
IsSilence a gap from (Ticks now ∷ before) = (last_tick from before ≤ now)
    × (now ≤ last_tick from before + gap) × IsSilence a gap from before

-- the timers until the call is given up: after an EOM, T2 and then T1
abbrev pub timers_time : State → ℕ
timers_time Idle = 0
timers_time Closing = 0
timers_time Identify = spans.t1
timers_time Again = spans.t2 + spans.t1
timers_time state = spans.t2

-- The call ends by itself: all that waits takes its time, and then the timers of its state, 9 seconds in which a DIS and the DCN
-- are given, and as long as five ticks take.
abbrev pub silent_time : (gap : ℕ) → AnswererCore → ℕ
silent_time gap a = time_of gap a.waiting + (timers_time a.state + 9000 + 5 * gap)

-- A call in which nothing more is heard is over after that time, whatever was heard before, and whatever the ticks are: no line
-- hangs for ever. (The last packet of the call before it was no longer ago than a packet can be.)
abbrev pub NoCallHangs : Type 0
NoCallHangs = (core : AnswererCore) (start from gap : ℕ) (events silence : List CallEvent)
    → let a : AnswererCore = after_events (rung core start) events
    in allowed_from core.pace.last ≤ start + spans.longest_pause
    → start ≤ from → AllUntil from events → IsSilence a gap from silence
    → from + silent_time gap a < last_tick from silence → (after_events a silence).state ≡ Idle

-- the packets that are given
abbrev pub one_if_given : Option WaitingPacket → ℕ
one_if_given (Some w) = 1
one_if_given None = 0

abbrev pub packets_given : AnswererCore → List CallEvent → ℕ
packets_given a [] = 0
packets_given a (Comes piece now read ∷ before) = packets_given a before
packets_given a (Ticks now ∷ before) =
    one_if_given (ticked (after_events a before) now).given + packets_given a before

-- However long it lasts, little is given in a silence: what waits, the DIS at most twelve times (T1 has twelve T4), and the DCN.
abbrev pub LittleIsGiven : Type 0
LittleIsGiven =
    (core : AnswererCore) (start from gap : ℕ) (events silence : List CallEvent) →
    let a : AnswererCore = after_events (rung core start) events in
    start ≤ from → AllUntil from events → IsSilence a gap from silence
    → packets_given a silence ≤ length a.waiting + 26
