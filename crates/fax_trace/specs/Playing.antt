-- PLAYING a script on a new gateway: its events one by one, the oldest first, with what is told of each. (This project's profile.)
use Rattle.std.specs.Prelude.{◌≡◌, ℕ, ◌≤◌, ◌⊎◌, true, false, List, [], ◌∷◌, ◌++◌, Option, None, codes}
use Rattle.fax_call.specs.Writings.{Writing}
use Rattle.fax_gateway.specs.Asking.{asked_after}
use Rattle.fax_gateway.specs.Events.{Event, Ring, FromCalling, FromCalled, Tick, Placed, moment_of, rings}
use Rattle.fax_gateway.specs.CallingLegs.{calling_leg, idle_after}
use Rattle.fax_gateway.specs.Setups.{Setup}
use Rattle.fax_gateway.specs.Turns.{call_asked, call_if_new}
use Rattle.fax_trace.specs.declared.event.ScriptEvent.{ScriptEvent}
use Rattle.fax_trace.specs.declared.event.ScriptEvent.TheVariants as script
use Rattle.fax_trace.specs.Told.{asked_lines, lines_told}

-- What was played: the events that the gateway accepted, with its answers, the newest first; the last moment that the script
-- told, 0 before the first; and the lines that were told, the oldest first.
pub record PlayedScript : Type 0 where
  pub trace : List Event
  pub moment : ℕ
  pub lines : List (List ℕ)

abbrev pub nothing_played : PlayedScript
nothing_played = record { trace = []; moment = 0; lines = [] }

-- the event of a script that an accepted event was
abbrev pub scripted : Event → ScriptEvent
scripted (Ring now number) = script.Ring
scripted (FromCalling octets now decided read) = script.FromCalling octets
scripted (FromCalled octets now decided) = script.FromCalled octets
scripted (Tick now given) = script.Tick now
scripted (Placed now true) = script.Connected now
scripted (Placed now false) = script.NotConnected now

-- the moment of an event: a tick, and a call that is placed or not, have their own, and what comes has the last one that was told
abbrev pub moment_at : ScriptEvent → ℕ → ℕ
moment_at (script.Tick moment) last = moment
moment_at (script.Connected moment) last = moment
moment_at (script.NotConnected moment) last = moment
moment_at event last = last

-- the call that is asked for after a trace, and the one that is asked for after an event and was not before it
abbrev pub call_after : Setup → Writing → List Event → Option ℕ
call_after setup writes trace = call_asked (asked_after setup writes trace)

abbrev pub newly_asked : Setup → Writing → List Event → Event → Option ℕ
newly_asked setup writes earlier event =
    call_if_new (call_after setup writes earlier) (call_after setup writes (event ∷ earlier))

-- The gateway accepts an event: the trace goes on with it and its answer, and its lines are told, and the call that it asks for from
-- then on.
pub record Accepts (setup : Setup) (writes : Writing)
    (old : PlayedScript) (event : ScriptEvent) (new : PlayedScript) : Type 0 where
  pub accepted : Event
  pub event_is : scripted accepted ≡ event
  pub at : moment_of accepted ≡ moment_at event old.moment
  pub new_is :
      new ≡ record {
        trace = accepted ∷ old.trace;
        moment = moment_of accepted;
        lines = old.lines
            ++ (lines_told accepted ++ asked_lines (newly_asked setup writes old.trace accepted));
      }

-- why a ring is refused, as its line says: a call is on; or none is, and no number is left
abbrev pub IsRingRefusal : Setup → List Event → List ℕ → Type 0
IsRingRefusal setup trace line =
    ((idle_after (calling_leg setup trace) ≡ false) × (line ≡ codes "ring refused 1 Busy"))
    ⊎ ((idle_after (calling_leg setup trace) ≡ true)
    × (4294967296 ≤ rings trace) × (line ≡ codes "ring refused 2 NoNumber"))

-- why an event is refused, as its line says: no call is asked for that could be placed or not
abbrev pub IsRefusal : Setup → Writing → List Event → ScriptEvent → List ℕ → Type 0
IsRefusal setup writes trace script.Ring line = IsRingRefusal setup trace line
IsRefusal setup writes trace (script.Connected moment) line =
    (asked_after setup writes trace ≡ None) × (line ≡ codes "connect refused 1 NotAsked")
IsRefusal setup writes trace (script.NotConnected moment) line =
    (asked_after setup writes trace ≡ None) × (line ≡ codes "not-connected refused 1 NotAsked")
IsRefusal setup writes trace event line = ⊥

-- It refuses an event: nothing changes on it, and the cause is told.
pub record Refuses (setup : Setup) (writes : Writing)
    (old : PlayedScript) (event : ScriptEvent) (new : PlayedScript) : Type 0 where
  pub line : List ℕ
  pub cause : IsRefusal setup writes old.trace event line
  pub new_is : new ≡ record {
    trace = old.trace;
    moment = moment_at event old.moment;
    lines = old.lines ++ line ∷ [];
  }

-- one event
abbrev pub Plays : Setup → Writing → PlayedScript → ScriptEvent → PlayedScript → Type 0
Plays setup writes old event new =
    Accepts setup writes old event new ⊎ Refuses setup writes old event new

-- all of them
abbrev pub PlaysAll : Setup → Writing → PlayedScript → List ScriptEvent → PlayedScript → Type 0
PlaysAll setup writes old [] new = new ≡ old
PlaysAll setup writes old (event ∷ events) new = (next : PlayedScript)
    × Plays setup writes old event next × PlaysAll setup writes next events new
