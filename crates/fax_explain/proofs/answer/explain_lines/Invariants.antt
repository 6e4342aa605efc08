use Rattle.std.proofs.Common.{◌≡◌, ◌+◌, ◌≤◌, ℕ, List, ◌++◌, length}
use Rattle.fax_call.specs.Writings.{IsWriting, Writing}
use Rattle.fax_command.specs.RowLines.{lines_of, text_of_lines}
use Rattle.fax_gateway.specs.Setups.{AreSet, Setup}
use Rattle.fax_trace.specs.declared.event.ScriptEvent.{ScriptEvent}
use Rattle.fax_trace.specs.Scripts.{TellEvents}
use Rattle.fax_explain.proofs.Told.{IsTold}
use Rattle.fax_explain.proofs.answer.explain_lines.Given as goal

-- the lines before the rest were played and told
abbrev pub invariant-loop-line : goal.invariant-loop-line
invariant-loop-line l =
    record {
      before : List (List ℕ);
      lines_are : lines_of l.script ≡ before ++ lines_of l.rest;
      so_many : l.number ≡ length before;
      short : l.number + length l.rest ≤ length l.script;
      events : List ScriptEvent;
      tell : TellEvents before events;
      lines : List (List ℕ);
      told : (setup : Setup) (writes : Writing) → AreSet setup l.fn.stage.gateway.settings → IsWriting writes → IsTold setup writes events lines l.moment l.stage;
      text_is : l.text.items ≡ text_of_lines lines;
    }

abbrev pub decreases-loop-line : goal.decreases-loop-line
decreases-loop-line l = length l.rest
