use Rattle.std.proofs.Common.{◌≡◌, take}
use Rattle.fax_queue.specs.Storing.{AddAll}
use Rattle.fax_queue.proofs.storage.Storage.add_all.Given as goal

-- the pages so far are on their queues
abbrev pub invariant-loop-k : goal.invariant-loop-k
invariant-loop-k g l =
    (l.self.spool ≡ l.initial.self.spool) × (l.self.life ≡ l.initial.self.life)
    × AddAll l.initial.self.life l.is_stored (take l.k l.pages) l.numbers l.initial.self.queues.items l.self.queues.items
