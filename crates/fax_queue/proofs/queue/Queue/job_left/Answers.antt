use Rattle.std.proofs.Common.{◌≡◌, IfSome, List, sym, subst}
use Rattle.fax_queue.specs.declared.queue.QueuedPage.{QueuedPage}
use Rattle.fax_queue.specs.Queues.{AreInOrder, NamesLeft}
use Rattle.fax_queue.proofs.Naming.{if_names_left, in_order_after, rest_is}
use Rattle.fax_queue.proofs.queue.Queue.job_left.Goals as goal

pub first_job-requires : goal.first_job-requires
first_job-requires c =
    subst (λ (l : List QueuedPage). AreInOrder l) (sym (rest_is c.args.delivered c.as_slice-waits.result.now c.self.inside.waits.items c.as_slice-waits.ensures.value))
    (in_order_after c.args.delivered c.self.inside.waits.items (c.self.invariant c.if-not-self.false))

pub returns-clause-some : goal.returns-clause-some
returns-clause-some c =
    let w : c.self.inside.waits.items ≡ c.args.self.now.waits = cc in
    subst (λ (l : List QueuedPage). IfSome c.first_job.result (λ left. NamesLeft c.args.pages c.args.delivered left l)) w
    (if_names_left c.first_job.result c.args.pages c.args.delivered c.in_ok-count.count c.self.inside.waits.items _ (rest_is c.args.delivered c.as_slice-waits.result.now c.self.inside.waits.items c.as_slice-waits.ensures.value)
    c.in_ok-count.ensures.1 (c.self.invariant c.if-not-self.false) c.first_job.ensures.names c.first_job.ensures.begins)
