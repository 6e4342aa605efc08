use Rattle.std.proofs.Common.{take}
use Rattle.fax_queue.specs.Storing.{AreRecordsUnder}
use Rattle.fax_queue.specs.Queues.{lines_of}
use Rattle.fax_queue.specs.Tags.{AreTagged}
use Rattle.fax_queue.proofs.putting.records_of.Given as goal

-- the records so far
abbrev pub invariant-loop-k : goal.invariant-loop-k
invariant-loop-k l =
    AreRecordsUnder l.names.life (lines_of l.names.queues.now) (take l.k l.pages) l.names.numbers.now l.records.items × AreTagged l.names.tags.now (take l.k l.pages) l.records.items
