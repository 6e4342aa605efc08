use Rattle.std.proofs.Common.{◌≡◌, length, ap, subst, arith}
use Rattle.fax_desk.specs.declared.desk.Desk.{Desk}
use Rattle.fax_redial.specs.Befalls.{Tries}
use Rattle.fax_redial.specs.Telling.{RedialsValue}
use Rattle.fax_redial.specs.Words.{ObeysIf, Steps, order_in}
use Rattle.fax_redial.proofs.Obeying.{as_seen, steps_so}
use Rattle.fax_redial.proofs.redials.Redials.order.Goals as goal

pub returns : goal.returns
returns g c =
    let tells = g.L.Listener.tells in
    let before = c.args.listener.now in
    let after = c.obey-done.new.listener in
    let old : RedialsValue = record { desk = c.self.inside.desk; tries = c.self.inside.tries.items } in
    let desk : Desk = c.step-next.new.self in
    let left : Tries = c.obey-done.new.tries in
    let new : RedialsValue = record { desk = c.obey-done.new.desk; tries = left } in
    let whole : c.self.inside.tries.len ≡ length old.tries = omega (arith, c.as_mut_slice.ensures.len, ap length c.as_mut_slice.ensures.value) in
    let as_many : length left ≡ length old.tries = omega (arith, c.obey-done.auto.tries, ap length c.as_mut_slice.ensures.value) in
    let obeys = subst (λ (t : Tries). ObeysIf tells c.args.now (order_in desk.waits) c.obey-done.result desk new.desk t left before after) c.as_mut_slice.ensures.value c.obey-done.ensures in
    as_seen (λ (a b : RedialsValue). Steps tells c.args.asker c.args.now c.args.word c.reply_of.result a b before after) c.self.inside.tries.len left new.desk old c.args.self.now c.self.view_is whole as_many
    (steps_so tells c.args.asker c.args.now c.args.word c.step-next.result c.obey-done.result c.reply_of.result desk c.as_slice.result.now old new before after c.as_slice.ensures.value c.step-next.ensures.next
    c.step-next.ensures.waits c.step-next.ensures.stop c.step-next.ensures.any c.step-next.ensures.same obeys c.reply_of.ensures)
