use Rattle.std.proofs.Common.{◌≤◌, drop, length}
use Rattle.fax_runcodes.specs.Painted.{AreRising}
use Rattle.fax_runcodes.proofs.row.RowBuilder.shorten.Given as goal

-- the changes from an index on lie after the first n elements
abbrev pub invariant-loop-count : goal.invariant-loop-count
invariant-loop-count l = record {
  after : AreRising l.n (drop l.count l.self-inside.changes.items) l.self-inside.len;
  few : l.count ≤ length l.self-inside.changes.items;
}

abbrev pub decreases-loop-count : goal.decreases-loop-count
decreases-loop-count l = l.count
