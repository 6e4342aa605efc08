use Rattle.std.proofs.Common.{List, inl, inr, refl, slice_get, subst}
use Rattle.fax_spool.specs.RecordOctets.{PageValue}
use Rattle.fax_undelivered.specs.StoredEnds.{PutsIf, card_for}
use Rattle.fax_undelivered.proofs.Ending.{keeps_left}
use Rattle.fax_undelivered.proofs.paired_store.keep_left.Goals as goal

pub returns-in-Ok-clause-kept : goal.returns-in-Ok-clause-kept
returns-in-Ok-clause-kept g c = elim c.put_left.ensures [
  | inl failed ↦ inl failed
  | inr put ↦ inr
      (keeps_left _ _ _ g.D.Disk.is_clean _ _ _ c.args.line c.args.ending.now.report (card_for c.args.ending.now.report c.args.ending.now.cause.now c.args.ending.now.day) c.args.storage.now.queues.items c.args.storage.now.spool
      c.job_pages.new.self.spool c.put_left.result c.args.second.now c.put_left.new.second c.in-Ok.pages.items (slice_get c.args.storage.now.queues.items c.args.line) refl c.in-Ok.ensures.ok
      (subst (λ (l : List PageValue). PutsIf g.U.Disk.seen g.U.Disk.may_leave g.U.Disk.is_usable l (card_for c.args.ending.now.report c.args.ending.now.cause.now c.args.ending.now.day) c.put_left.result c.args.second.now c.put_left.new.second) c.as_slice.ensures.value put))
]
