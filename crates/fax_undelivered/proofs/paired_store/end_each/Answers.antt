use Rattle.std.proofs.Common.{◌≡◌, ◌+◌, [], ◌∷◌, ◌++◌, ℕ, List, get_or, take, refl, sym, subst}
use Rattle.std.proofs.lemmas.List.{take_all, take_more}
use Rattle.fax_jobs.specs.declared.report.Report.{Report}
use Rattle.fax_line.specs.declared.settling.LineReport.{LineReport}
use Rattle.fax_undelivered.specs.Cards.{CardValue}
use Rattle.fax_undelivered.specs.StoredEnds.{EndStoredAlone, card_for, cause_of}
use Rattle.fax_undelivered.proofs.Alone.{alone_more, no_report}
use Rattle.fax_undelivered.proofs.paired_store.end_each.Goals as goal

pub loop-one-init : goal.loop-one-init
loop-one-init g c = (refl, refl, refl)

pub loop-one-preserved : goal.loop-one-preserved
loop-one-preserved g c =
    let jobs = c.args.ended.now in
    let i = c.loop-one.one-index in
    let one : LineReport = get_or jobs i no_report in
    let cards : ℕ → Report → CardValue = λ line report. card_for report (cause_of c.args.causes.now.of_lines.now line) c.args.causes.now.day in
    let next : take (i + 1) jobs ≡ take i jobs ++ one ∷ [] = take_more jobs i no_report c.loop-one-test.true in
    subst (λ (l : List LineReport). EndStoredAlone g.D.Disk.seen g.D.Disk.may_leave g.D.Disk.is_usable g.D.Disk.is_clean g.U.Disk.seen g.U.Disk.may_leave g.U.Disk.is_usable cards l
    c.args.storage.now.queues.items c.end_one.new.storage.queues.items c.args.storage.now.spool c.end_one.new.storage.spool c.args.undelivered.now c.end_one.new.undelivered) (sym next)
    (alone_more g.D.Disk.seen g.D.Disk.may_leave g.D.Disk.is_usable g.D.Disk.is_clean g.U.Disk.seen g.U.Disk.may_leave g.U.Disk.is_usable cards (take i jobs) one
    c.args.storage.now.queues.items c.loop-one.storage.queues.items c.end_one.new.storage.queues.items c.args.storage.now.spool c.loop-one.storage.spool c.end_one.new.storage.spool
    c.args.undelivered.now c.loop-one.undelivered c.end_one.new.undelivered c.loop-one.invariant c.end_one.ensures)

pub returns : goal.returns
returns g c =
    let cards : ℕ → Report → CardValue = λ line report. card_for report (cause_of c.args.causes.now.of_lines.now line) c.args.causes.now.day in
    subst (λ (l : List LineReport). EndStoredAlone g.D.Disk.seen g.D.Disk.may_leave g.D.Disk.is_usable g.D.Disk.is_clean g.U.Disk.seen g.U.Disk.may_leave g.U.Disk.is_usable cards l
    c.args.storage.now.queues.items c.loop-one.storage.queues.items c.args.storage.now.spool c.loop-one.storage.spool c.args.undelivered.now c.loop-one.undelivered)
    (take_all c.loop-one.one-index c.args.ended.now c.loop-one-test.false) c.loop-one.invariant
