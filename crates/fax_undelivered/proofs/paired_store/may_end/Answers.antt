use Rattle.std.proofs.Common.{Option, Some, refl, sym, subst}
use Rattle.fax_undelivered.specs.StoredEnds.{MayEnd, card_for}
use Rattle.fax_undelivered.specs.declared.undelivered.Undelivered.{Undelivered}
use Rattle.fax_undelivered.proofs.paired_store.may_end.Goals as goal

pub returns-in-Some-clause-first : goal.returns-in-Some-clause-first
returns-in-Some-clause-first g c =
    subst (λ (o : Option (Undelivered g.row.U.Denot)). MayEnd g.D.Disk.seen g.D.Disk.may_leave g.D.Disk.is_usable g.D.Disk.is_clean g.U.Disk.seen g.U.Disk.may_leave g.U.Disk.is_usable c.args.line c.args.ending.now.report
    (card_for c.args.ending.now.report c.args.ending.now.cause.now c.args.ending.now.day) c.args.storage.now.queues.items c.args.storage.now.spool c.may_end_with.new.storage.spool c.may_end_with.result o (Some c.may_end_with.new.second)) (sym c.in-Some.is)
    (c.may_end_with.new.second, refl, c.may_end_with.ensures.first)
