use Rattle.std.proofs.Common.{refl, arith}
use Rattle.fax_queue.proofs.Queueing.{end_agrees, get_at, set_at}
use Rattle.fax_queue.proofs.Tidying.{tidy_ended}
use Rattle.fax_queue.proofs.Waits.{job_stays}
use Rattle.fax_queue.proofs.storage.Storage.end.Goals as goal

pub returns-clause-ends : goal.returns-clause-ends
returns-clause-ends g c =
    let olds = c.args.self.now.queues.items in
    let old = c.index_mut.result.now in
    let new = c.put_end.new.queue in
    record {
      old = old;
      new = new;
      was = get_at olds c.args.i old (omega (arith, c.if-i-len.false, c.len.ensures)) c.index_mut.ensures.value;
      is = set_at olds c.args.i new (omega (arith, c.if-i-len.false, c.len.ensures));
      are = refl;
      ends = job_stays _ _ _ c.args.report.pages old new c.args.self.now.spool c.put_end.new.spool c.change_files-self.new.spool c.in_ok-kept.ensures.ends c.change_files-self.ensures.told c.change_files-self.ensures.refuses;
    }

pub returns-clause-tidy : goal.returns-clause-tidy
returns-clause-tidy g c = λ waits was accepts.
    tidy_ended _ _ _ _ c.put_end.new.spool c.change_files-self.new.spool (c.in_ok-kept.ensures.ends.wait waits was) c.change_files-self.ensures.tidy c.change_files-self.ensures.refuses accepts

pub returns-clause-agree : goal.returns-clause-agree
returns-clause-agree g c = end_agrees _ _ _ _ _ _ _ _ _ (returns-clause-ends g c)
