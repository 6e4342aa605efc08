-- How long a call lasts at most, whatever is heard in it. (ITU-T T.30, 5.4.3 for T1 and T4; three tries, three RTNs for a page and
-- each rate of a DIS once are this project's profile.)
use Rattle.std.specs.Prelude.{◌≡◌, ℕ, ◌+◌, ◌*◌, ◌<◌, ◌≤◌, List, [], ◌∷◌, length, Ok, IsSome}
use Rattle.fax_runcodes.specs.declared.format.Format.{Format}
use Rattle.fax_frames.specs.declared.dis.Dis.{Dis}
use Rattle.fax_frames.specs.declared.dcs.Dcs.{Dcs}
use Rattle.fax_frames.specs.Choice.{choice}
use Rattle.fax_timers.specs.Paces.{allowed_from}
use Rattle.fax_timers.specs.Spans as spans
use Rattle.fax_jobs.specs.Jobs.{JobValue, IsJob}
use Rattle.fax_call.specs.declared.state.State.TheVariants.{Idle}
use Rattle.fax_call.specs.Writings.{Writing, IsWriting}
use Rattle.fax_call.specs.Replies.{Text}
use Rattle.fax_call.specs.Calls.{CallerCore, started, CallEvent, Comes, Ticks, after_events}
use Rattle.fax_call.specs.Silence.{due_time, last_tick}

-- what was heard and the ticks, in the order of time: each within so many milliseconds of the tick before it, the first of the
-- start
abbrev pub AreSteady : (gap start : ℕ) → List CallEvent → Type 0
AreSteady gap start [] = Unit {0}
AreSteady gap start (Comes piece now ∷ before) =
    (now ≤ last_tick start before + gap) × AreSteady gap start before
AreSteady gap start (Ticks now ∷ before) = (last_tick start before ≤ now)
    × (now ≤ last_tick start before + gap) × AreSteady gap start before

-- no page's text takes longer, under any DCS that is chosen for it
abbrev pub NoTextIsLonger : Writing → JobValue → (gap longest : ℕ) → Type 0
NoTextIsLonger writes job gap longest =
    (page : ℕ) (dis : Dis) (format : Format) (step : ℕ) (dcs : Dcs)
    → choice dis format step ≡ Ok dcs → due_time writes job gap (Text page dcs 0) ≤ longest

-- Each job has such a time.
abbrev pub TextsHaveALongest : Type 0
TextsHaveALongest = (writes : Writing) (job : JobValue) (gap : ℕ)
    → (longest : ℕ) × NoTextIsLonger writes job gap longest

-- So long takes an exchange at most, whose answer is awaited: a training, an image with its command or a command alone, and T4.
abbrev pub exchange_time : (gap longest : ℕ) → ℕ
exchange_time gap longest = 8680 + 44 * gap + longest

-- A page has 36 of them at most, and T1 once: 18 at its three turns (three trainings, an image, two commands more), and three at
-- each of six rates. Then the DCN goes out.
abbrev pub longest_call : (pages gap longest : ℕ) → ℕ
longest_call pages gap longest =
    pages * (36 * exchange_time gap longest + (spans.t1 + gap)) + (5000 + 3 * gap)

-- Every call is over after that time, with its outcome, whatever is heard: nobody holds a line for ever. (The last packet of the
-- call before it was no longer ago than a packet can be.)
abbrev pub EveryCallEnds : Type 0
EveryCallEnds = (writes : Writing)
    (job : JobValue) (core : CallerCore) (start gap longest : ℕ) (events : List CallEvent)
    → let z : CallerCore = after_events writes job (started core job start) events
    in IsWriting writes → IsJob job → allowed_from core.pace.last ≤ start + spans.longest_pause
    → NoTextIsLonger writes job gap longest → AreSteady gap start events
    → start + longest_call (length job.pages) gap longest < last_tick start events
    → (z.state ≡ Idle) × IsSome z.outcome
