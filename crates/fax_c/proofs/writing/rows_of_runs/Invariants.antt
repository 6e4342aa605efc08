use Rattle.std.proofs.Common.{◌≡◌, ◌++◌, ◌≤◌, ℕ, List, All, length}
use Rattle.fax_pagestore.specs.PageRows.{most_rows}
use Rattle.fax_runcodes.specs.Widths.{elements_of}
use Rattle.fax_c.specs.Calls.{AreRunsOf}
use Rattle.fax_c.proofs.writing.rows_of_runs.Given as goal

-- the rows so far have the runs before the rest
abbrev pub invariant-loop-rest : goal.invariant-loop-rest
invariant-loop-rest g l =
    let rows = g.S.RowStore.rows l.rows in
    record {
      front : List ℕ;
      runs_are : l.runs ≡ front ++ l.rest;
      are_runs : AreRunsOf front rows;
      few : length rows ≤ most_rows;
      each : All (λ row. length row ≡ elements_of l.width) rows;
    }

abbrev pub decreases-loop-rest : goal.decreases-loop-rest
decreases-loop-rest g l = length l.rest
