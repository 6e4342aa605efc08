use Rattle.std.proofs.Common.{length, map}
use Rattle.fax_spool.specs.Waits.{name_of}
use Rattle.fax_queue.specs.Queues.{AreAmong}
use Rattle.fax_queue.proofs.reading.are_found.Given as goal

abbrev pub decreases-loop-page : goal.decreases-loop-page
decreases-loop-page l = length l.rest

-- where the rest are found, all are
abbrev pub invariant-loop-page : goal.invariant-loop-page
invariant-loop-page l = AreAmong l.line l.rest (map name_of l.found) → AreAmong l.line l.pages (map name_of l.found)
