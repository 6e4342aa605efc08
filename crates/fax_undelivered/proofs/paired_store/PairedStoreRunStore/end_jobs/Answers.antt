use Rattle.std.proofs.Common.{◌∙◌, ℕ, List, inl, inr, refl, sym, subst}
use Rattle.fax_jobs.specs.declared.report.Report.{Report}
use Rattle.fax_undelivered.specs.StoredEnds.{CauseValue, EndStoredAlone, card_for, cause_of}
use Rattle.fax_undelivered.proofs.paired_store.PairedStoreRunStore.end_jobs.Goals as goal

pub returns-then-are_delivered : goal.returns-then-are_delivered
returns-then-are_delivered g c = inl (sym c.are_delivered.ensures ∙ c.if-are_delivered.true, refl, c.end_all.ensures.ends.0)

pub returns : goal.returns
returns g c =
    inr (subst (λ (l : List CauseValue). EndStoredAlone g.D.Disk.seen g.D.Disk.may_leave g.D.Disk.is_usable g.D.Disk.is_clean g.U.Disk.seen g.U.Disk.may_leave g.U.Disk.is_usable
    (λ line report. card_for report (cause_of l line) c.args.self.now.day) c.args.ended.now c.args.self.now.storage.queues.items c.end_each.new.storage.queues.items c.args.self.now.storage.spool c.end_each.new.storage.spool
    c.args.self.now.undelivered c.end_each.new.undelivered) c.as_slice.ensures.value c.end_each.ensures)
