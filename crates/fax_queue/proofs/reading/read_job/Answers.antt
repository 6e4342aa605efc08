use Rattle.std.proofs.Common.{List, ℕ, refl, inl, inr, ◌∙◌, subst}
use Rattle.fax_queue.specs.Jobs.{ReadsNamed}
use Rattle.fax_queue.proofs.ReadBack.{all_delivered, all_through}
use Rattle.fax_queue.proofs.reading.read_job.Goals as goal

pub returns-then-report-clause-ok : goal.returns-then-report-clause-ok
returns-then-report-clause-ok g c = record {
  all = all_delivered _ _ c.args.report.pages c.args.report.delivered c.args.queue.now.waits c.if-report.true;
  are = inl (c.if-report.true, c.new.ensures.items);
}

pub returns-else-not-are_found-clause-ok : goal.returns-else-not-are_found-clause-ok
returns-else-not-are_found-clause-ok g c = record {
  all = all_through c.args.queue.now.line c.as_bytes.result.now _ c.args.report.delivered c.waits.result.now c.args.queue.now.waits c.in-Ok.pages.items c.as_slice.result.now
      (c.as_bytes.ensures.value ∙ c.line-in-Ok.ensures) c.waits.ensures c.as_slice.ensures.value (c.if-not-are_found.ensures refl);
  are = inr (record {
    left = c.in-Some.left;
    names = c.in-Some.ensures.some;
    reads = subst (λ (l : List ℕ). ReadsNamed g.D.Disk.seen g.D.Disk.may_leave g.D.Disk.is_usable g.D.Disk.is_clean c.in-Some.left l c.args.spool.now c.read_pages.new.spool c.in-Ok.pages.items) c.line.ensures c.in-Ok.ensures.found;
  });
}
