use Rattle.std.proofs.Common.{true, ap}
use Rattle.fax_spool.specs.RecordOctets as spool
use Rattle.fax_queue.proofs.Calls.{is_begun, shows_begun}
use Rattle.fax_queue.proofs.restored.push_call.Goals as goal

pub returns : goal.returns
returns c =
    let page = c.args.page.now in
    is_begun true page c.args.calls.now.items c.push.new.self.items (record { number = c.page.inside.call; confirmed = c.new.result })
    (shows_begun (record { number = c.page.inside.call; confirmed = c.new.result }) page (ap (λ (p : spool.PageValue). p.call) c.page.view_is) c.new.ensures.items) c.in_ok-push.ensures.items
