use Rattle.std.proofs.Common.{◌-◌, ◌+◌, length}
use Rattle.fax_runcodes.specs.Painted.{colour_after_changes}
use Rattle.fax_mrcode.specs.Starts.{IsCursor}
use Rattle.fax_mrcode.proofs.reading.near.next_change.Given as goal

abbrev pub invariant-loop-index : goal.invariant-loop-index
invariant-loop-index l = IsCursor l.changes (colour_after_changes l.near.index) l.near.from l.index

abbrev pub decreases-loop-index : goal.decreases-loop-index
decreases-loop-index l = length l.changes + 2 - l.index
