use Rattle.std.proofs.Common.{◌≡◌, length}
use Rattle.fax_queue.specs.Storing.{AreNumbersOf}
use Rattle.fax_queue.proofs.storage.Storage.numbers_of.Given as goal

-- there is a number for each page so far
abbrev pub invariant-loop-page : goal.invariant-loop-page
invariant-loop-page g l = AreNumbersOf l.self.queues.items l.self.life l.pages l.numbers.items × (length l.numbers.items ≡ l.page-index)
