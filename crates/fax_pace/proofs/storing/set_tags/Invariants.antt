use Rattle.fax_queue.specs.SpoolStorage.{IsUnchanged}
use Rattle.fax_pace.proofs.storing.set_tags.Given as goal

-- what is kept is the same so far
abbrev pub invariant-loop-i : goal.invariant-loop-i
invariant-loop-i g l = IsUnchanged l.initial.store.storage.queues.items l.store.storage.queues.items l.initial.store.storage.spool l.store.storage.spool
