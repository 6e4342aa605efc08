-- How long a gateway takes at most, where it is ticked when a tick is due. (ITU-T T.30, 5.4.3 for T1, T2 and T4; how often what is
-- tried, and the pace, are this project's profile.)
use Rattle.std.specs.Prelude.{◌≡◌, ℕ, ◌+◌, ◌*◌, ◌<◌, ◌≤◌, ◌^◌, max, Bool, true, false, not, ◌&&◌, ◌||◌, List, [], ◌∷◌, ◌++◌, length, Option, Some, None, option_map, if◌then◌else◌}
use Rattle.fax_udptl.specs.Datagrams.{DatagramValue}
use Rattle.fax_timers.specs.Moments.{earlier}
use Rattle.fax_timers.specs.Spans as spans
use Rattle.fax_ifp.specs.Pieces.{Piece}
use Rattle.fax_answer.specs.History.{Decision, PassesOver, Trains, HangsUp, GivesCfr, GivesFtt, GivesMcf, GivesRtn}
use Rattle.fax_answer.specs.Table.{Reading, decision}
use Rattle.fax_answer.specs.Replies.{is_waiting}
use Rattle.fax_answer.specs.Calls.{AnswererCore, CallEvent, Comes, Ticks, after_events, is_heard, rung}
use Rattle.fax_answer.specs.Silence.{silent_time}
use Rattle.fax_call.specs.Writings.{IsWriting, Writing}
use Rattle.fax_call.specs.Ending.{NoTextIsLonger, longest_call}
use Rattle.fax_gateway.specs.Setups.{Setup}
use Rattle.fax_gateway.specs.Events.{Event, Ring, FromCalling, FromCalled, Tick, Placed, clock}
use Rattle.fax_gateway.specs.Legs.{decides}
use Rattle.fax_gateway.specs.CallingLegs as calling
use Rattle.fax_gateway.specs.CallingLegs.{CallingLeg, calling_leg, idle_after}
use Rattle.fax_gateway.specs.CalledLegs.{CalledLeg}
use Rattle.fax_gateway.specs.BothLegs.{both_legs}
use Rattle.fax_gateway.specs.Due.{due_at}
use Rattle.fax_gateway.specs.Traces.{IsTrace}

-- the moment from which on a tick is wanted: that at which one is due, and no earlier than now
abbrev pub wanted : Setup → Writing → List Event → Option ℕ
wanted setup writes trace =
    option_map (λ (due : ℕ). max due (clock trace)) (due_at setup writes trace)

-- the earliest such moment since the last tick: by then the next one is to come
abbrev pub deadline : Setup → Writing → List Event → Option ℕ
deadline setup writes [] = wanted setup writes []
deadline setup writes (Tick at given ∷ before) = wanted setup writes (Tick at given ∷ before)
deadline setup writes (Ring at number ∷ before) =
    earlier (deadline setup writes before) (wanted setup writes (Ring at number ∷ before))
deadline setup writes (FromCalling octets at decided read ∷ before) =
    earlier (deadline setup writes before)
    (wanted setup writes (FromCalling octets at decided read ∷ before))
deadline setup writes (FromCalled octets at decided ∷ before) =
    earlier (deadline setup writes before)
    (wanted setup writes (FromCalled octets at decided ∷ before))
deadline setup writes (Placed at connected ∷ before) =
    earlier (deadline setup writes before) (wanted setup writes (Placed at connected ∷ before))

-- this moment is no more than so many milliseconds after a deadline, or after a moment from which on that counts
abbrev pub IsInTime : (deadline : Option ℕ) → (from gap now : ℕ) → Type 0
IsInTime None from gap now = Unit {0}
IsInTime (Some moment) from gap now = now ≤ max moment from + gap

-- PROMPT TICKS: from this moment on no deadline passed by more than so many milliseconds before a tick came. So are ticks that come only
-- when they are due.
abbrev pub IsPrompt : Setup → Writing → (gap from : ℕ) → List Event → Type 0
IsPrompt setup writes gap from [] = Unit {0}
IsPrompt setup writes gap from (e ∷ before) =
    IsInTime (deadline setup writes before) from gap (clock (e ∷ before))
    × IsPrompt setup writes gap from before

-- and so are steady ones: from this moment on each event came at most so many milliseconds after the tick before it
abbrev pub last_tick : (from : ℕ) → List Event → ℕ
last_tick from [] = from
last_tick from (Tick at given ∷ before) = max from (clock (Tick at given ∷ before))
last_tick from (Ring at number ∷ before) = last_tick from before
last_tick from (FromCalling octets at decided read ∷ before) = last_tick from before
last_tick from (FromCalled octets at decided ∷ before) = last_tick from before
last_tick from (Placed at connected ∷ before) = last_tick from before

abbrev pub IsSteady : (gap from : ℕ) → List Event → Type 0
IsSteady gap from [] = Unit {0}
IsSteady gap from (e ∷ before) =
    (clock (e ∷ before) ≤ last_tick from before + gap) × IsSteady gap from before

abbrev pub SteadyTicksArePrompt : Type 0
SteadyTicksArePrompt = (setup : Setup) (writes : Writing) (trace : List Event) (gap from : ℕ)
    → IsSteady gap from trace → IsPrompt setup writes gap from trace

-- JOBS END. While a job is being sent, the longest call of so many pages is not yet over since its own began, whatever is heard: so each
-- job that is sent is reported by then. (`entered`: the end of the call is in the book, by the tick that reports it. Moments have 64
-- bits.)
-- Ruled out: a machine that answers each training with FTT for ever; one that asks for each page again; a call that waits for a DIS
-- and is never given up; a report that waits for the next ring.
abbrev pub JobsEndInTime : Type 0
JobsEndInTime =
    (setup : Setup) (writes : Writing) (trace : List Event) (l : CalledLeg) (gap longest : ℕ)
    → IsWriting writes → IsTrace setup writes trace
    → clock trace < 2 ^ 64 → (both_legs setup writes trace).leg ≡ Some l → l.entered ≡ false
    → NoTextIsLonger writes l.job (gap + 1) longest → IsPrompt setup writes gap l.begun trace
    → clock trace ≤ l.begun + longest_call (length l.job.pages) (gap + 1) longest + (gap + 1)

-- A SILENT CALL of the calling leg: it is not rung, and no datagram that comes decides a slot.
abbrev pub IsQuiet : List Event → Type 0
IsQuiet [] = Unit {0}
IsQuiet (Ring at number ∷ later) = ⊥
IsQuiet (FromCalling octets at decided read ∷ later) = (decided ≡ false) × IsQuiet later
IsQuiet (FromCalled octets at decided ∷ later) = IsQuiet later
IsQuiet (Tick at given ∷ later) = IsQuiet later
IsQuiet (Placed at connected ∷ later) = IsQuiet later

-- SILENT CALLS END. Where nothing is heard on the calling leg after some trace, and a call is still on there, the time that what waits
-- and its timers take is not yet over, whatever was heard before, and whatever the called leg does.
-- Ruled out: a leg whose T2 begins anew at each datagram that is late; a timer that is looked at only where something comes; a call
-- that is held until its job is sent.
abbrev pub SilentCallsEnd : Type 0
SilentCallsEnd =
    (setup : Setup) (writes : Writing) (before later : List Event) (l : CallingLeg) (gap : ℕ)
    → IsTrace setup writes (later ++ before)
    → clock (later ++ before) < 2 ^ 64 → calling_leg setup before ≡ Some l
    → IsQuiet later → IsPrompt setup writes gap (clock before) (later ++ before)
    → idle_after (calling_leg setup (later ++ before)) ≡ false
    → clock (later ++ before) ≤ clock before + silent_time (gap + 1) (calling.core_of l) + (gap + 1)

-- WHAT IS HEARD in a call of the calling leg: a piece at which the answerer decides something, or that sets T2 anew. (So neither
-- a frame that is passed over while packets wait nor, in Identify, any but a DCS and a DCN.)
abbrev pub is_passed_over : Decision → Bool
is_passed_over PassesOver = true
is_passed_over (Trains dcs) = false
is_passed_over HangsUp = false
is_passed_over (GivesCfr dcs) = false
is_passed_over GivesFtt = false
is_passed_over (GivesMcf command page) = false
is_passed_over GivesRtn = false

abbrev pub hears : Reading → AnswererCore → Piece → Bool
hears read a piece =
    not (is_passed_over (decision read a.state (is_waiting a.waiting) a.history piece))
    || (not (is_waiting a.waiting) && is_heard a.state piece)

-- the moment of what was heard last, and that of the ring where nothing was
abbrev pub last_heard : (begun : AnswererCore) → (start : ℕ) → List CallEvent → ℕ
last_heard begun start [] = start
last_heard begun start (Comes piece now read ∷ before) =
    if hears read (after_events begun before) piece then now else last_heard begun start before
last_heard begun start (Ticks now ∷ before) = last_heard begun start before

abbrev pub heard_at : CallingLeg → ℕ
heard_at l = last_heard (rung l.before l.begun) l.begun l.events

-- the longest that a call goes on unheard: CED and a DIS wait, of which one is a preamble; then T2 and T1, 9 seconds and five ticks
abbrev pub longest_silence : (gap : ℕ) → ℕ
longest_silence gap =
    (spans.longest_pause + 2 * spans.pace + 3 * gap) + (spans.t2 + spans.t1 + 9000 + 5 * gap)

-- A CALL THAT IS ON WAS HEARD LATELY: no longer ago than the longest silence, whatever came besides, and whatever the called leg does.
-- Ruled out: a leg whose T2 begins anew at each datagram that decides a slot, though no piece of a frame or signal is in it; one whose T1
-- begins anew at each frame; a DIS that is given again for as long as something comes.
abbrev pub CallsAreHeardLately : Type 0
CallsAreHeardLately =
    (setup : Setup) (writes : Writing) (trace : List Event) (l : CallingLeg) (gap : ℕ)
    → IsTrace setup writes trace → clock trace < 2 ^ 64 → calling_leg setup trace ≡ Some l
    → idle_after (Some l) ≡ false → IsPrompt setup writes gap (heard_at l) trace
    → clock trace ≤ heard_at l + longest_silence (gap + 1) + (gap + 1)

-- how many of the datagrams that arrived decided a slot
abbrev pub deciding : List DatagramValue → ℕ
deciding [] = 0
deciding (d ∷ arrived) = if decides arrived d then deciding arrived + 1 else deciding arrived

-- LONG CALLS ARE HEARD. An answering call has no longest time, since a caller may repeat its commands for ever: so it is told by what is
-- heard. Where n datagrams of the call decided a slot, it has lasted no longer than n + 1 of the longest silences.
-- Ruled out: a call that goes on by itself, as one that begins T1 anew at each T2; one that late datagrams, repeated ones or ones that
-- cannot be read hold open.
abbrev pub LongCallsAreHeard : Type 0
LongCallsAreHeard =
    (setup : Setup) (writes : Writing) (trace : List Event) (l : CallingLeg) (gap : ℕ)
    → IsTrace setup writes trace → clock trace < 2 ^ 64 → calling_leg setup trace ≡ Some l
    → idle_after (Some l) ≡ false → IsPrompt setup writes gap l.begun trace
    → clock trace ≤ l.begun + (deciding l.arrived + 1) * (longest_silence (gap + 1) + (gap + 1))

-- There are such traces: each one goes on with a tick that is as prompt.
abbrev pub PromptTracesGoOn : Type 0
PromptTracesGoOn = (setup : Setup) (writes : Writing) (trace : List Event) (gap from at : ℕ)
    → IsTrace setup writes trace → IsPrompt setup writes gap from trace
    → IsInTime (deadline setup writes trace) from gap (max at (clock trace))
    → (e : Event) × IsTrace setup writes (e ∷ trace) × IsPrompt setup writes gap from (e ∷ trace)
