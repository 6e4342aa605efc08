use Rattle.std.proofs.Common.{take}
use Rattle.fax_queue.specs.Queues.{lines_of}
use Rattle.fax_queue.specs.Together.{AreEndsOf}
use Rattle.fax_queue.proofs.ending.records_of.Given as goal

-- the records of the first so many
abbrev pub invariant-loop-one : goal.invariant-loop-one
invariant-loop-one l = AreEndsOf (lines_of l.queues) (take l.one-index l.plan) l.records.items
