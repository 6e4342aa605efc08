use Rattle.std.proofs.Common.{length, map}
use Rattle.fax_spool.specs.Waits.{name_of}
use Rattle.fax_queue.specs.Queues.{IsAmong, name_in}
use Rattle.fax_queue.proofs.reading.is_found.Given as goal

abbrev pub decreases-loop-other : goal.decreases-loop-other
decreases-loop-other l = length l.rest

-- where it is found among the rest, it is among all
abbrev pub invariant-loop-other : goal.invariant-loop-other
invariant-loop-other l = IsAmong (name_in l.line l.page) (map name_of l.rest) → IsAmong (name_in l.line l.page) (map name_of l.found)
