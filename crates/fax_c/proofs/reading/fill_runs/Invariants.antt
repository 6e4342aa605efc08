use Rattle.std.proofs.Common.{◌≡◌, ◌≤◌, length, take, drop}
use Rattle.fax_c.specs.Calls.{AreRunsOf}
use Rattle.fax_c.proofs.reading.fill_runs.Given as goal

-- the runs of the rows so far, and after them nothing is changed
abbrev pub invariant-loop-i : goal.invariant-loop-i
invariant-loop-i g l = record {
  runs : AreRunsOf (take l.filled l.runs) (take l.i l.page.rows);
  filled : l.filled ≤ length l.runs;
  same : length l.runs ≡ length l.initial.runs;
  after : drop l.filled l.runs ≡ drop l.filled l.initial.runs;
}
