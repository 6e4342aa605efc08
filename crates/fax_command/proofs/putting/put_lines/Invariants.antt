use Rattle.std.proofs.Common.{◌≡◌, ℕ, List, take}
use Rattle.fax_command.specs.RowLines.{TellRows, text_of_lines}
use Rattle.fax_command.specs.Streams.{Puts}
use Rattle.fax_command.proofs.putting.put_lines.Given as goal

-- the lines of the rows so far were put
abbrev pub invariant-loop-i : goal.invariant-loop-i
invariant-loop-i g l =
    let sink = g.O.Sink in
    record {
      lines : List (List ℕ);
      tell : TellRows lines (take l.i (g.S.RowStore.rows l.rows));
      put : Puts (sink.contents l.fn.sink) l.fn.waiting.items (sink.contents l.sink) l.waiting.items (text_of_lines lines);
      failed : sink.failed l.sink ≡ sink.failed l.fn.sink;
    }
