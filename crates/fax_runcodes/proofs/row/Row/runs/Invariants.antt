use Rattle.std.proofs.Common.{◌≡◌, ◌+◌, ◌≤◌, ◌++◌, length, drop, vec_len, vec_capacity}
use Rattle.fax_runcodes.specs.Painted.{AreRising}
use Rattle.fax_runcodes.proofs.RunsOfRow.{runs_between}
use Rattle.fax_runcodes.proofs.row.Row.runs.Given as goal

-- the runs so far and those of the places that are left are all; there is room for these
abbrev pub invariant-loop-place : goal.invariant-loop-place
invariant-loop-place l = record {
  all : l.runs.items ++ runs_between l.from (drop l.place-index l.self-inside.changes.items) l.self-inside.width
      ≡ runs_between 0 l.self-inside.changes.items l.self-inside.width;
  rising : AreRising l.from (drop l.place-index l.self-inside.changes.items) l.self-inside.width;
  count : vec_len l.runs ≡ l.place-index;
  room : length l.self-inside.changes.items + 1 ≤ vec_capacity l.runs;
}
