-- What `faxgate trace` answers to an input. (This project's profile.)
use Rattle.std.specs.Prelude.{◌≡◌, ℕ, ◌+◌, max, false, List, [], ◌∷◌, ◌++◌, length, codes, decimal, Result, Ok, Err}
use Rattle.fax_timers.specs.Moments.{is_due}
use Rattle.fax_call.specs.Writings.{IsWriting, Writing}
use Rattle.fax_gateway.specs.declared.settings.Settings.{Settings}
use Rattle.fax_gateway.specs.Due.{due_at}
use Rattle.fax_gateway.specs.Events.{Event, clock}
use Rattle.fax_gateway.specs.Setups.{AreSet, Setup}
use Rattle.fax_gateway.specs.Traces.{IsTrace}
use Rattle.fax_command.specs.RowLines.{lines_of, text_of_lines}
use Rattle.fax_trace.specs.declared.event.ScriptEvent.{ScriptEvent}
use Rattle.fax_trace.specs.declared.event.ScriptEvent.TheVariants.{Tick}
use Rattle.fax_trace.specs.declared.script_fault.ScriptFault.{ScriptFault}
use Rattle.fax_trace.specs.declared.script_fault.ScriptFault.TheVariants.{Line, NoMemory}
use Rattle.fax_trace.specs.Scripts.{TellsEvent, TellEvents}
use Rattle.fax_trace.specs.Playing.{PlayedScript, PlaysAll, nothing_played}

-- how playing ends: all of a script was played, or there is a fault
abbrev pub Outcome : Type 0
Outcome = Result Unit ScriptFault

abbrev pub status_of : Outcome → ℕ
status_of (Ok done) = 0
status_of (Err (Line number)) = 1
status_of (Err NoMemory) = 3

-- the line that a fault has after the others
abbrev pub fault_lines : Outcome → List (List ℕ)
fault_lines (Ok done) = []
fault_lines (Err (Line number)) = (codes "fault line " ++ decimal number) ∷ []
fault_lines (Err NoMemory) = codes "fault memory" ∷ []

-- It ends after so many lines, before the others: where there are none; at the first that tells no event, numbered from 1;
-- or where memory is wanted and refused (`IsWanted`).
abbrev pub Ends : (after : ℕ) → (others : List (List ℕ)) → Outcome → Type 0
Ends after others (Ok done) = others ≡ []
Ends after others (Err (Line number)) =
    (number ≡ after + 1) × (line : List ℕ) × (more : List (List ℕ))
    × (others ≡ line ∷ more) × ((event : ScriptEvent) → TellsEvent line event → ⊥)
Ends after others (Err NoMemory) = Unit {0}

-- a tick before one is due, after this trace: it gives nothing, changes nothing but the clock, and wants no memory
abbrev pub IsEarlyTick : Setup → Writing → List Event → ScriptEvent → Type 0
IsEarlyTick setup writes trace (Tick moment) =
    is_due (due_at setup writes trace) (max moment (clock trace)) ≡ false
IsEarlyTick setup writes trace event = ⊥

-- MEMORY IS WANTED: before a line was played, for the input or for the gateway; and from then on for the next line alone, where that
-- does not tell such a tick. (What a line says is kept, and what is told of it.)
abbrev pub IsWanted : Setup → Writing → List Event → (before others : List (List ℕ)) → Type 0
IsWanted setup writes trace [] others = Unit {0}
IsWanted setup writes trace (line ∷ before) [] = ⊥
IsWanted setup writes trace (line ∷ before) (next ∷ others) = (event : ScriptEvent)
    → TellsEvent next event → IsEarlyTick setup writes trace event → ⊥

abbrev pub IsWantedIf : Outcome
    → Setup → Writing → List Event → (before others : List (List ℕ)) → Type 0
IsWantedIf (Ok done) setup writes trace before others = Unit {0}
IsWantedIf (Err (Line number)) setup writes trace before others = Unit {0}
IsWantedIf (Err NoMemory) setup writes trace before others =
    IsWanted setup writes trace before others

-- A new gateway answers the events by a trace, where this function gives the texts of pages, and the text has the lines that
-- are told of them, and these last ones after; and so it may end after that trace.
pub record AreTold (setup : Setup) (writes : Writing) (events : List ScriptEvent)
    (may_end : List Event → Type 0) (last : List (List ℕ)) (text : List ℕ) : Type 0 where
  pub played : PlayedScript
  pub is_played : PlaysAll setup writes nothing_played events played
  pub is_trace : IsTrace setup writes played.trace
  pub ends_so : may_end played.trace
  pub text_is : text ≡ text_of_lines (played.lines ++ last)

-- The exit status and the text that a run with these settings may answer to an input: the events of its lines are played, up to where that
-- ends, and told, with the line of a fault that ends it; and that is so whatever gives the texts of pages.
pub record Answers (settings : Settings) (input : List ℕ) (status : ℕ) (text : List ℕ) :
    Type 0 where
  pub before : List (List ℕ)
  pub others : List (List ℕ)
  pub lines_are : lines_of input ≡ before ++ others
  pub events : List ScriptEvent
  pub tell : TellEvents before events
  pub outcome : Outcome
  pub ends : Ends (length before) others outcome
  pub status_is : status ≡ status_of outcome
  pub told : (setup : Setup) (writes : Writing)
      → AreSet setup settings → IsWriting writes → AreTold setup writes events
      (λ trace. IsWantedIf outcome setup writes trace before others) (fault_lines outcome) text

-- The same, where just so many lines of the input were played. So what stands before the line of a fault, or of want of
-- memory, is what is told of these, and each of them is told whole.
pub record AnswersAfter (settings : Settings) (input : List ℕ) (played status : ℕ) (text : List ℕ) :
    Type 0 where
  pub answers : Answers settings input status text
  pub so_many : length answers.before ≡ played
