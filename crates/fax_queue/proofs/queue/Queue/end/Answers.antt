use Rattle.std.proofs.Common.{◌≡◌, List, drop, sym, subst, arith}
use Rattle.std.proofs.lemmas.Grind.{common_steps}
use Rattle.fax_queue.specs.declared.queue.QueuedPage.{QueuedPage}
use Rattle.fax_queue.specs.Queues.{AreInOrder}
use Rattle.fax_queue.proofs.Naming.{in_order_after}
use Rattle.fax_queue.proofs.queue.Queue.end.Goals as goal

pub invariant_of-self-2 : goal.invariant_of-self-2
invariant_of-self-2 c = λ whole.
    let old = c.self.inside.waits.items in
    let e : c.drop-drain.new.self.0.items ≡ drop c.args.pages old = grind (arith, common_steps) in
    subst (λ (l : List QueuedPage). AreInOrder l) (sym e) (in_order_after c.args.pages old (c.self.invariant whole))
