use Rattle.fax_queue.proofs.EndsIf.{ends_if}
use Rattle.fax_undelivered.proofs.Ending.{ends_where, ends_where_not}
use Rattle.fax_undelivered.proofs.paired_store.end_where.Goals as goal

pub returns-then-not-may : goal.returns-then-not-may
returns-then-not-may g c =
    ends_where_not _ _ _ c.args.may c.args.line c.args.report c.args.storage.now.queues.items c.leave.new.self.queues.items c.args.storage.now.spool c.leave.new.self.spool c.leave.ensures.spool c.leave.ensures.left

pub returns : goal.returns
returns g c =
    ends_where _ _ _ c.args.may c.args.line c.args.report c.args.storage.now.queues.items c.end.new.self.queues.items c.args.storage.now.spool c.end.new.self.spool c.if-not-may.false
    (ends_if _ _ _ c.end.result c.args.line c.args.report c.args.storage.now.queues.items c.end.new.self.queues.items c.args.storage.now.spool c.end.new.self.spool
    c.end.ensures.agree c.end.ensures.ends c.end.ensures.sure c.end.ensures.unnoted c.end.ensures.action c.end.ensures.refuses)
