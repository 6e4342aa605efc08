use Rattle.std.proofs.Common.{◌≡◌, ◌+◌, ◌≤◌, ℕ, List, ◌++◌, length}
use Rattle.fax_call.specs.Writings.{IsWriting, Writing}
use Rattle.fax_command.specs.RowLines.{lines_of}
use Rattle.fax_gateway.specs.Setups.{AreSet, Setup}
use Rattle.fax_trace.specs.declared.event.ScriptEvent.{ScriptEvent}
use Rattle.fax_trace.specs.Scripts.{TellEvents}
use Rattle.fax_trace.specs.Playing.{PlayedScript, PlaysAll, nothing_played}
use Rattle.fax_trace.specs.Rep.{IsPlaying}
use Rattle.fax_trace.proofs.answer.play_lines.Given as goal

-- the lines before the rest were played
abbrev pub invariant-loop-line : goal.invariant-loop-line
invariant-loop-line l =
    record {
      before : List (List ℕ);
      lines_are : lines_of l.script ≡ before ++ lines_of l.rest;
      so_many : length before ≡ l.lines;
      short : l.lines + length l.rest ≤ length l.script;
      events : List ScriptEvent;
      tell : TellEvents before events;
      played : (setup : Setup) (writes : Writing) → AreSet setup l.fn.player.gateway.settings → IsWriting writes → (p : PlayedScript) × PlaysAll setup writes nothing_played events p × IsPlaying setup writes p l.player;
    }

abbrev pub decreases-loop-line : goal.decreases-loop-line
decreases-loop-line l = length l.rest
