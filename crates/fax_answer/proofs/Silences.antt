-- The premises of the laws on time are met: calls worked through on the definitions, and silences that last. The newest event
-- stands first.
use Rattle.std.proofs.Common.{◌≡◌, ℕ, zero, suc, ◌+◌, ◌*◌, ◌<◌, ◌≤◌, max, true, List, [], ◌∷◌, Option, Some, None, refl, replicate, arith}
use Rattle.fax_timers.specs.Paces.{allowed_from}
use Rattle.fax_timers.specs.Spans as spans
use Rattle.fax_ifp.specs.Pieces.{Frame, Start, Octets, End}
use Rattle.fax_ifp.specs.WrittenPackets.{written_after}
use Rattle.fax_answer.specs.declared.state.State.TheVariants.{Idle}
use Rattle.fax_answer.specs.Orders.{order_of}
use Rattle.fax_answer.specs.Calls.{AnswererCore, new_answering, rung, CallEvent, Comes, Ticks, after_events}
use Rattle.fax_answer.specs.InTime.{identified_since, last_given, last_sound, timer_since, gives_up_at}
use Rattle.fax_answer.specs.Silence.{last_tick, AllUntil, IsSilence, silent_time}
use Rattle.fax_answer.proofs.Silence.{no_call_hangs}

begun : AnswererCore
begun = rung (new_answering 40) 0

-- the timer that is due next in a call that was rung at 0, and the one at which it is given up
next_timer : List CallEvent → Option ℕ
next_timer events = timer_since (after_events begun events).state (identified_since begun 0 events) (last_given begun 0 events) (last_sound begun 0 events)

last_timer : List CallEvent → Option ℕ
last_timer events = gives_up_at (after_events begun events).state (identified_since begun 0 events) (last_sound begun 0 events)

-- CED, the preamble and our DIS are given: T4 is due next, and T1 in the end
identifies : List CallEvent
identifies = Ticks 80 ∷ Ticks 40 ∷ Ticks 0 ∷ []

identify_rests : (after_events begun identifies).waiting ≡ []
unfolding identifies begun written_after
identify_rests = refl

t4_next : next_timer identifies ≡ Some 3080
unfolding next_timer identifies begun written_after
t4_next = refl

t1_last : last_timer identifies ≡ Some 35000
unfolding last_timer identifies begun written_after
t1_last = refl

-- a DCS comes, a training check is confirmed, and CFR is given; then an image begins and its octets come
pages : List CallEvent
pages =
    Comes (Octets (0x00 ∷ 0x14 ∷ [])) 2900 None ∷ Comes (Start 1) 1900 None
    ∷ Ticks 160 ∷ Ticks 120 ∷ Comes (End true) 80 None ∷ Comes (Octets (replicate 300 0)) 80 None ∷ Comes (Start 1) 80 None
    ∷ Comes (Frame (0xFF ∷ 0xC8 ∷ 0xC1 ∷ 0x00 ∷ 0x40 ∷ 0x00 ∷ [])) 80 None ∷ identifies

page_rests : (after_events begun pages).waiting ≡ []
unfolding pages identifies begun order_of written_after
page_rests = refl

-- T2 is due 6 s after these octets
t2_next : next_timer pages ≡ Some 8900
unfolding next_timer pages identifies begun order_of written_after
t2_next = refl

t2_last : last_timer pages ≡ Some 8900
unfolding last_timer pages identifies begun order_of written_after
t2_last = refl

-- SILENCES: so many ticks, one every gap
ticks : (gap from : ℕ) → ℕ → List CallEvent
ticks gap from zero = []
ticks gap from (suc n) = Ticks (from + suc n * gap) ∷ ticks gap from n

last_is : (gap from n : ℕ) → last_tick from (ticks gap from n) ≡ from + n * gap
unfolding ticks
last_is gap from zero = omega arith
last_is gap from (suc n) = refl

are_silence : (a : AnswererCore) (gap from n : ℕ) → IsSilence a gap from (ticks gap from n)
unfolding ticks
are_silence a gap from zero = tt
are_silence a gap from (suc n) = (omega (arith, last_is gap from n), omega (arith, last_is gap from n), are_silence a gap from n)

-- they last, however long
lasts : (gap from long : ℕ) → 0 < gap → from + long < last_tick from (ticks gap from (suc long))
unfolding ticks
lasts zero from long some = absurd (omega arith)
lasts (suc gap) from long some = omega arith

-- and some moment is after all that came
latest : (start : ℕ) → List CallEvent → ℕ
latest start [] = start
latest start (Comes piece now read ∷ before) = max now (latest start before)
latest start (Ticks now ∷ before) = max now (latest start before)

later : (m n : ℕ) (events : List CallEvent) → m ≤ n → AllUntil m events → AllUntil n events
later m n [] h u = tt
later m n (Comes piece now read ∷ before) h u = (omega (arith, u.0), later m n before h u.1)
later m n (Ticks now ∷ before) h u = (omega (arith, u.0), later m n before h u.1)

all_until : (start : ℕ) (events : List CallEvent) → AllUntil (latest start events) events
unfolding latest
all_until start [] = tt
all_until start (Comes piece now read ∷ before) = (omega arith, later (latest start before) (max now (latest start before)) before (omega arith) (all_until start before))
all_until start (Ticks now ∷ before) = (omega arith, later (latest start before) (max now (latest start before)) before (omega arith) (all_until start before))

after_start : (start : ℕ) (events : List CallEvent) → start ≤ latest start events
unfolding latest
after_start start [] = omega arith
after_start start (Comes piece now read ∷ before) = let h : start ≤ latest start before = after_start start before in omega arith
after_start start (Ticks now ∷ before) = let h : start ≤ latest start before = after_start start before in omega arith

-- So every call is over after a silence, whatever came before it, and however often ticks come.
goes_over : (core : AnswererCore) (start gap : ℕ) (events : List CallEvent) → allowed_from core.pace.last ≤ start + spans.longest_pause → 0 < gap →
    let a : AnswererCore = after_events (rung core start) events in
    (after_events a (ticks gap (latest start events) (suc (silent_time gap a)))).state ≡ Idle
goes_over core start gap events p some =
    let a : AnswererCore = after_events (rung core start) events in
    let from : ℕ = latest start events in
    let n : ℕ = silent_time gap a in
    no_call_hangs core start from gap events (ticks gap from (suc n)) p (after_start start events) (all_until start events) (are_silence a gap from (suc n)) (lasts gap from n some)
