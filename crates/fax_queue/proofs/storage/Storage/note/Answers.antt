use Rattle.std.proofs.Common.{ℕ, false, refl, subst}
use Rattle.fax_queue.specs.declared.queue.QueuedPage.{QueuedPage}
use Rattle.fax_queue.specs.Storing.{AddsAt}
use Rattle.fax_queue.proofs.Queueing.{adds_none}
use Rattle.fax_queue.proofs.storage.Storage.note.Goals as goal

pub returns-clause-names : goal.returns-clause-names
returns-clause-names g c = λ names are.
    let page : QueuedPage = record { life = c.args.self.now.life; call = c.args.call; number = c.next_number-number.result; is_stored = false } in
    adds_none page c.args.i c.args.self.now.queues.items c.wait.new.self.queues.items refl c.wait.ensures.queues names are

pub returns-clause-waits : goal.returns-clause-waits
returns-clause-waits g c =
    subst (λ (n : ℕ). AddsAt (record { life = c.args.self.now.life; call = c.args.call; number = n; is_stored = false }) c.args.i c.args.self.now.queues.items c.wait.new.self.queues.items) c.next_number-number.ensures c.wait.ensures.queues
