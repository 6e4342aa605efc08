use Rattle.std.proofs.Common.{◌≡◌, ◌≤◌, ℕ, List, ◌++◌, length, All}
use Rattle.fax_pagestore.specs.PageRows.{most_rows}
use Rattle.fax_runcodes.specs.Widths.{elements_of}
use Rattle.fax_command.specs.RowLines.{TellRows, lines_of}
use Rattle.fax_command.proofs.answer.rows_of_lines.Given as goal

-- the rows so far are told by the lines before the rest
abbrev pub invariant-loop-line : goal.invariant-loop-line
invariant-loop-line g l =
    let rows = g.S.RowStore.rows l.rows in
    record {
      before : List (List ℕ);
      lines_are : lines_of l.input ≡ before ++ lines_of l.rest;
      told : TellRows before rows;
      few : length rows ≤ most_rows;
      each : All (λ row. length row ≡ elements_of l.width) rows;
    }

abbrev pub decreases-loop-line : goal.decreases-loop-line
decreases-loop-line g l = length l.rest
