use Rattle.std.proofs.Common.{take}
use Rattle.fax_queue.specs.Together.{Planned}
use Rattle.fax_queue.proofs.ending.plan_ends.Given as goal

-- the first so many are planned
abbrev pub invariant-loop-one : goal.invariant-loop-one
invariant-loop-one l = Planned (take l.one-index l.ended) l.initial.queues l.queues l.plan.items
