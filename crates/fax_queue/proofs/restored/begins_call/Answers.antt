use Rattle.std.proofs.Common.{◌≡◌, not, nat_eq, sym, subst}
use Rattle.fax_spool.specs.RecordOctets as spool
use Rattle.fax_queue.specs.Restorations.{begins}
use Rattle.fax_queue.proofs.Calls.{begins_in_call, begins_in_life}
use Rattle.fax_queue.proofs.restored.begins_call.Goals as goal

pub returns-then-last-page : goal.returns-then-last-page
returns-then-last-page c =
    let i = c.page.inside in
    subst (λ (p : spool.PageValue). not (nat_eq c.in-Some.last.now.life i.life) ≡ begins c.args.before.now p) c.page.view_is
    (begins_in_life c.args.before.now c.in-Some.last.now (record { life = i.life; call = i.call; number = i.number; format = i.format; closes = i.closes; line = i.line.items; tag = i.tag.items; text = i.text.items }) (sym c.in-Some.ensures.value) c.if-last-page.true)

pub returns-else-last-page : goal.returns-else-last-page
returns-else-last-page c =
    let i = c.page.inside in
    subst (λ (p : spool.PageValue). not (nat_eq c.in-Some.last.now.call i.call) ≡ begins c.args.before.now p) c.page.view_is
    (begins_in_call c.args.before.now c.in-Some.last.now (record { life = i.life; call = i.call; number = i.number; format = i.format; closes = i.closes; line = i.line.items; tag = i.tag.items; text = i.text.items }) (sym c.in-Some.ensures.value) c.if-last-page.false)
