-- How long a call lasts in which nothing more is heard. (ITU-T T.30, 5.4.3 for T1 and T4; three tries, and the pace, are this
-- project's profile.)
use Rattle.std.specs.Prelude.{◌≡◌, ℕ, ◌+◌, ◌*◌, ◌/◌, ◌<◌, ◌≤◌, List, [], ◌∷◌, length, drop, IsSome, if◌then◌else◌}
use Rattle.fax_timers.specs.Paces.{allowed_from}
use Rattle.fax_timers.specs.Spans as spans
use Rattle.fax_jobs.specs.Jobs.{JobValue}
use Rattle.fax_call.specs.declared.state.State.TheVariants.{Idle}
use Rattle.fax_call.specs.Writings.{Writing}
use Rattle.fax_call.specs.Replies.{Packet, Due, One, Text, signals_preamble, part_length}
use Rattle.fax_call.specs.Table.{Stays}
use Rattle.fax_call.specs.Calls.{CallerCore, started, heard, text_at, CallEvent, Comes, Ticks, after_events}

-- The time until the packet after a packet may go out, at most: the span that the pace asks for, and so long as the next tick
-- may take to come.
abbrev pub packet_time : (gap : ℕ) → Packet → ℕ
packet_time gap packet = gap + (if signals_preamble packet then spans.longest_pause else spans.pace)

-- what waits, packet by packet
abbrev pub due_time : Writing → JobValue → (gap : ℕ) → Due → ℕ
due_time writes job gap (One packet) = packet_time gap packet
due_time writes job gap (Text page dcs from) =
    (length (drop from (text_at writes job page dcs)) / part_length dcs + 1) * (gap + spans.pace)

abbrev pub time_of : Writing → JobValue → (gap : ℕ) → List Due → ℕ
time_of writes job gap [] = 0
time_of writes job gap (d ∷ due) = due_time writes job gap d + time_of writes job gap due

-- the moment of the last tick, `from` where there was none
abbrev pub last_tick : (from : ℕ) → List CallEvent → ℕ
last_tick from [] = from
last_tick from (Comes piece now ∷ before) = last_tick from before
last_tick from (Ticks now ∷ before) = now

-- All that was heard and each tick so far came at that moment or before it.
abbrev pub AllUntil : (from : ℕ) → List CallEvent → Type 0
AllUntil from [] = Unit {0}
AllUntil from (Comes piece now ∷ before) = (now ≤ from) × AllUntil from before
AllUntil from (Ticks now ∷ before) = (now ≤ from) × AllUntil from before

-- Silence: what comes is no frame, or one that the calling table leaves aside; and ticks come, each at most so many milliseconds
-- after the one before, the first after `from`.
abbrev pub IsSilence : Writing
    → JobValue → (a : CallerCore) → (gap from : ℕ) → List CallEvent → Type 0
IsSilence writes job a gap from [] = Unit {0}
IsSilence writes job a gap from (Comes piece now ∷ before) =
    (heard (after_events writes job a before) piece now ≡ Stays)
    × IsSilence writes job a gap from before
IsSilence writes job a gap from (Ticks now ∷ before) = (last_tick from before ≤ now)
    × (now ≤ last_tick from before + gap) × IsSilence writes job a gap from before

-- The call ends by itself: all that waits takes its time, and T1, or T4 with the last tries and the DCN, 40 seconds more, and as
-- long as 130 ticks take.
abbrev pub silent_time : Writing → JobValue → (gap : ℕ) → CallerCore → ℕ
silent_time writes job gap a = time_of writes job gap a.waiting + (spans.t1 + 5000 + 130 * gap)

-- A call in which nothing more is heard is over after that time, with its outcome, whatever was heard before, and whatever the
-- ticks are: no line hangs for ever. (The last packet of the call before it was no longer ago than a packet can be.)
abbrev pub NoCallHangs : Type 0
NoCallHangs = (writes : Writing) (job : JobValue) (core : CallerCore) (start from gap : ℕ)
    (events silence : List CallEvent) → let begun : CallerCore = started core job start
    in let a : CallerCore = after_events writes job begun events
    in let z : CallerCore = after_events writes job a silence
    in allowed_from core.pace.last ≤ start + spans.longest_pause
    → start ≤ from → AllUntil from events → IsSilence writes job a gap from silence
    → from + silent_time writes job gap a < last_tick from silence
    → (z.state ≡ Idle) × IsSome z.outcome
