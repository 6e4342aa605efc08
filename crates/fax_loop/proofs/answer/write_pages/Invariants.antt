use Rattle.std.proofs.Common.{◌≡◌, ℕ, List, take}
use Rattle.std.specs.Io.KnownBytes.{Appends}
use Rattle.fax_command.specs.RowLines.{TellRows, text_of_lines}
use Rattle.fax_loop.specs.Answers.{rows_of}
use Rattle.fax_loop.proofs.answer.write_pages.Given as goal

-- the lines of the rows of the pages so far were written
abbrev pub invariant-loop-page : goal.invariant-loop-page
invariant-loop-page g l =
    let sink = g.O.Sink in
    record {
      lines : List (List ℕ);
      tell : TellRows lines (rows_of (take l.page-index l.pages));
      written : Appends (sink.contents l.fn.sink) (sink.contents l.sink) (text_of_lines lines);
      failed : sink.failed l.sink ≡ sink.failed l.fn.sink;
    }
