use Rattle.std.proofs.Common.{◌≡◌, ◌+◌, ◌-◌, ◌≤◌, ◌++◌, length, drop, sum, vec_len, vec_capacity}
use Rattle.fax_runcodes.specs.Painted.{changes_between}
use Rattle.fax_runcodes.proofs.row.changes_of.Given as goal

-- the changes so far and those of the runs that are left are all; there is room for these
abbrev pub invariant-loop-run : goal.invariant-loop-run
invariant-loop-run l = record {
  all : l.changes.items ++ changes_between l.place (drop l.run-index l.runs) ≡ changes_between 0 l.runs;
  place : l.place + sum (drop l.run-index l.runs) ≡ sum l.runs;
  count : vec_len l.changes ≡ l.run-index;
  room : length l.runs - 1 ≤ vec_capacity l.changes;
}
