use Rattle.std.proofs.Common.{◌≡◌, ◌∙◌, true, false, refl, sym}
use Rattle.fax_queue.proofs.Naming.{in_order_more, not_in_order}
use Rattle.fax_queue.proofs.queue.comes_after.Goals as goal

pub returns-in-Some-clause-after : goal.returns-in-Some-clause-after
returns-in-Some-clause-after c = λ is order. in_order_more c.args.waits.now c.in-Some.last.now c.args.page.now _ refl (sym c.in-Some.ensures.value) (c.is_after.ensures.0 is) order

pub returns-in-Some-clause-not_after : goal.returns-in-Some-clause-not_after
returns-in-Some-clause-not_after c = λ is order.
    not_in_order c.args.waits.now c.args.page.now c.in-Some.last.now _ refl (sym c.in-Some.ensures.value)
    (λ after. let on : c.is_after.result ≡ true = c.is_after.ensures.1 after in let wrong : true ≡ false = sym on ∙ is in absurd (cc)) order
