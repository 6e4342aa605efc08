use Rattle.std.proofs.Common.{◌≡◌, Some, length, slice_get, ap, subst, ◌∙◌, arith}
use Rattle.std.proofs.lemmas.Grind.{common_steps}
use Rattle.std.proofs.lemmas.Option.{gets}
use Rattle.fax_desk.specs.declared.desk.Desk.{Desk}
use Rattle.fax_redial.specs.Befalls.{Tries}
use Rattle.fax_redial.specs.Telling.{RedialsValue}
use Rattle.fax_redial.specs.Tries.{TryValue}
use Rattle.fax_redial.specs.Words.{LooksIf, ObeysIf, asked_in, order_in}
use Rattle.fax_redial.specs.declared.job.RetryJob.{RetryJob}
use Rattle.fax_redial.proofs.Obeying.{as_seen, looks_so}
use Rattle.fax_redial.proofs.redials.Redials.look.Goals as goal

pub returns : goal.returns
returns g c =
    let tells = g.L.Listener.tells in
    let before = c.args.listener.now in
    let told = c.tell_if.new.listener in
    let after = c.obey.new.listener in
    let old : RedialsValue = record { desk = c.self.inside.desk; tries = c.self.inside.tries.items } in
    let held : TryValue = c.in-Some-Some.held in
    let desk : Desk = c.look-looked.new.self in
    let left : Tries = c.obey.new.tries in
    let new : RedialsValue = record { desk = c.obey.new.desk; tries = left } in
    let whole : c.self.inside.tries.len ≡ length old.tries = omega (arith, c.as_mut_slice.ensures.len, ap length c.as_mut_slice.ensures.value) in
    let as_many : length left ≡ length old.tries = omega (arith, c.obey.auto.tries, ap length c.as_mut_slice.ensures.value) in
    let there : slice_get old.tries c.args.i ≡ Some (Some held) = grind (arith, common_steps, gets, c.get.ensures.lookup, c.in-Some-Some.is, c.in-Some-Some.field-0-is, c.deref.ensures.value) in
    let obeys = subst (λ (t : Tries). ObeysIf tells c.args.now (order_in desk.waits) c.obey.result desk new.desk t left told after) c.as_mut_slice.ensures.value c.obey.ensures in
    as_seen (λ (a b : RedialsValue). LooksIf tells c.args.i c.args.now (slice_get a.tries c.args.i) a b before after) c.self.inside.tries.len left new.desk old c.args.self.now c.self.view_is whole as_many
    (looks_so tells c.args.i c.args.now held c.view.result c.look-looked.result c.asked_in-asked.result desk c.obey.result old new before told after there c.view.ensures c.look-looked.ensures.looked c.look-looked.ensures.cards
    c.look-looked.ensures.waits c.look-looked.ensures.same (c.asked_in-asked.ensures ∙ ap (λ (j : RetryJob). asked_in j.tries c.look-looked.result) c.job.ensures) c.tell_if.ensures obeys)
