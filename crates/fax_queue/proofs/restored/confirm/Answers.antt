use Rattle.std.proofs.Common.{refl}
use Rattle.fax_queue.proofs.Calls.{confirms}
use Rattle.fax_queue.proofs.restored.confirm.Goals as goal

pub returns : goal.returns
returns c =
    let call = c.in-Some.call in
    confirms c.pop.new.self.items call (record { number = call.number; confirmed = c.push.new.self }) c.args.confirmed c.args.calls.now.items c.push-2.new.self.items
    c.in-Some.ensures.items c.in_ok-push-2.ensures.items refl c.in_ok-push.ensures.items
