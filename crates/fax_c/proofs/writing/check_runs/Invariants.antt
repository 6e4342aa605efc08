use Rattle.std.proofs.Common.{◌≤◌, length}
use Rattle.fax_pagestore.specs.PageRows.{most_rows}
use Rattle.fax_runcodes.specs.Widths.{elements_of}
use Rattle.fax_c.specs.Calls.{StandInFront}
use Rattle.fax_c.proofs.writing.check_runs.Given as goal

-- so many rows stand before the rest
abbrev pub invariant-loop-rest : goal.invariant-loop-rest
invariant-loop-rest l = record {
  so_far : StandInFront (elements_of l.width) l.runs l.rows l.rest;
  few : l.rows ≤ most_rows;
}

abbrev pub decreases-loop-rest : goal.decreases-loop-rest
decreases-loop-rest l = length l.rest
