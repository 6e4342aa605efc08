use Rattle.std.proofs.Common.{◌≡◌, MatchOption, Option, sym, subst, arith}
use Rattle.std.specs.Prelude.{IfErr, IfOk}
use Rattle.fax_queue.specs.declared.end_fault.EndFault.TheVariants as faults
use Rattle.fax_queue.specs.Jobs.{ReadsLeft}
use Rattle.fax_queue.specs.Queues.{QueueValue}
use Rattle.fax_queue.proofs.Queueing.{get_at}
use Rattle.fax_queue.proofs.storage.Storage.job_pages.Goals as goal

pub returns-clause-ok : goal.returns-clause-ok
returns-clause-ok g c =
    subst (λ (o : Option QueueValue). IfOk c.read_job.result (λ pages. MatchOption o ⊥
    (λ queue. ReadsLeft g.D.Disk.seen g.D.Disk.may_leave g.D.Disk.is_usable g.D.Disk.is_clean c.args.report.pages c.args.report.delivered queue c.args.self.now.spool c.read_job.new.spool pages.items)))
    (sym (get_at c.args.self.now.queues.items c.args.i c.index.result.now (omega (arith, c.if-i-len.false, c.len.ensures)) c.index.ensures))
    c.read_job.ensures.ok

pub returns-clause-fault : goal.returns-clause-fault
returns-clause-fault g c =
    subst (λ (o : Option QueueValue). IfErr c.read_job.result (λ fault. MatchOption o (fault ≡ faults.NoLine) (λ queue. fault ≡ faults.NotStored)))
    (sym (get_at c.args.self.now.queues.items c.args.i c.index.result.now (omega (arith, c.if-i-len.false, c.len.ensures)) c.index.ensures))
    c.read_job.ensures.fault
