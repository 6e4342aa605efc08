use Rattle.std.proofs.Common.{◌≡◌, ◌*◌, ◌≤◌, ℕ, List, length, take}
use Rattle.fax_c.specs.Calls.{AreRunsOf}
use Rattle.fax_c.proofs.reading.count_all_runs.Given as goal

-- how many runs the rows so far have
abbrev pub invariant-loop-i : goal.invariant-loop-i
invariant-loop-i g l = record {
  list : List ℕ;
  runs : AreRunsOf list (take l.i l.page.rows);
  total : length list ≡ l.total;
  few : l.total ≤ 2433 * l.i;
}
