use Rattle.fax_undelivered.specs.StoredEnds.{cause_of}
use Rattle.fax_undelivered.proofs.Ending.{ends_kept}
use Rattle.fax_undelivered.proofs.paired_store.end_one.Goals as goal

pub returns : goal.returns
returns g c =
    ends_kept _ _ _ _ _ _ _ c.args.one.line c.args.causes.now.day c.args.one.report c.cause_of.result.now (cause_of c.args.causes.now.of_lines.now c.args.one.line) c.args.storage.now.queues.items c.may_end-may.new.storage.queues.items _
    c.args.storage.now.spool c.may_end-may.new.storage.spool _ c.may_end-may.result c.args.undelivered.now c.may_end-may.new.undelivered
    c.cause_of.ensures c.may_end-may.ensures.first c.may_end-may.ensures.read c.may_end-may.ensures.refuses c.may_end-may.ensures.queues c.end_where.ensures
