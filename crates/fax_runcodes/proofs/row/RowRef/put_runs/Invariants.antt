use Rattle.std.proofs.Common.{◌≡◌, ◌++◌, length, drop, take}
use Rattle.fax_runcodes.specs.Painted.{AreRising}
use Rattle.fax_runcodes.proofs.RunsOfRow.{runs_between}
use Rattle.fax_runcodes.proofs.row.RowRef.put_runs.Given as goal

-- the runs so far and those of the places that are left are all, and after those so far nothing is changed
abbrev pub invariant-loop-i : goal.invariant-loop-i
invariant-loop-i l = record {
  all : take l.i l.runs ++ runs_between l.from (drop l.i l.self-inside.places.now) l.self-inside.elements
      ≡ runs_between 0 l.self-inside.places.now l.self-inside.elements;
  rising : AreRising l.from (drop l.i l.self-inside.places.now) l.self-inside.elements;
  same : length l.runs ≡ length l.initial.runs;
  after : drop l.i l.runs ≡ drop l.i l.initial.runs;
}
