-- What `faxgate explain` answers to an input. (This project's profile.)
use Rattle.std.specs.Prelude.{◌≡◌, ℕ, List, ◌++◌, length}
use Rattle.fax_call.specs.Writings.{IsWriting, Writing}
use Rattle.fax_command.specs.RowLines.{lines_of, text_of_lines}
use Rattle.fax_gateway.specs.declared.settings.Settings.{Settings}
use Rattle.fax_gateway.specs.Setups.{AreSet, Setup}
use Rattle.fax_gateway.specs.Traces.{IsTrace}
use Rattle.fax_trace.specs.declared.event.ScriptEvent.{ScriptEvent}
use Rattle.fax_trace.specs.Playing.{PlayedScript, nothing_played}
use Rattle.fax_trace.specs.Scripts.{TellEvents}
use Rattle.fax_trace.specs.Answers.{Outcome, Ends, status_of, fault_lines}
use Rattle.fax_explain.specs.Ladders.{TellAll}

-- A new gateway answers the events by a trace, where this function gives the texts of pages, and lines tell them and its answers.
pub record AreExplained (setup : Setup)
    (writes : Writing) (events : List ScriptEvent) (lines : List (List ℕ)) : Type 0 where
  pub played : PlayedScript
  pub told : TellAll setup writes nothing_played events played lines
  pub is_trace : IsTrace setup writes played.trace

-- The lines of a script were read as events up to where playing ended, as `faxgate trace` reads them, and a text tells these
-- events and what a new gateway with these settings answers to them.
pub record HasTold (settings : Settings) (script : List ℕ) (outcome : Outcome) (text : List ℕ) :
    Type 0 where
  pub before : List (List ℕ)
  pub others : List (List ℕ)
  pub lines_are : lines_of script ≡ before ++ others
  pub events : List ScriptEvent
  pub tell : TellEvents before events
  pub ends : Ends (length before) others outcome
  pub lines : List (List ℕ)
  pub told : (setup : Setup) (writes : Writing)
      → AreSet setup settings → IsWriting writes → AreExplained setup writes events lines
  pub text_is : text ≡ text_of_lines lines

-- this is so of the settings and the octets of each script that was told in this text, up to such
-- an end
abbrev pub EachTold : Outcome → (text : List ℕ) → (Settings → (script : List ℕ) → Type 0) → Type 0
EachTold outcome text IsSo =
    (settings : Settings) (script : List ℕ) → HasTold settings script outcome text
    → IsSo settings script

-- The exit status and the text that a run with these settings may answer to an input: its events are told, up to where playing
-- ends, with the line of a fault that ends it.
pub record Explains (settings : Settings) (input : List ℕ) (status : ℕ) (text : List ℕ) :
    Type 0 where
  pub ladder : List ℕ
  pub outcome : Outcome
  pub has_told : HasTold settings input outcome ladder
  pub status_is : status ≡ status_of outcome
  pub text_is : text ≡ ladder ++ text_of_lines (fault_lines outcome)
