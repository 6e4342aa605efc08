use Rattle.std.proofs.Common.{◌-◌, ◌+◌, length}
use Rattle.fax_mrcode.specs.Starts.{IsCursor}
use Rattle.fax_mrcode.proofs.reading.index_of_b1.Given as goal

abbrev pub invariant-loop-index : goal.invariant-loop-index
invariant-loop-index l = IsCursor l.changes l.start.colour l.start.from l.index

abbrev pub decreases-loop-index : goal.decreases-loop-index
decreases-loop-index l = length l.changes + 2 - l.index
