use Rattle.std.proofs.Common.{take}
use Rattle.fax_undelivered.specs.StoredEnds.{EndStoredAlone, card_for, cause_of}
use Rattle.fax_undelivered.proofs.paired_store.end_each.Given as goal

-- the first so many ended
abbrev pub invariant-loop-one : goal.invariant-loop-one
invariant-loop-one g l =
    EndStoredAlone g.D.Disk.seen g.D.Disk.may_leave g.D.Disk.is_usable g.D.Disk.is_clean g.U.Disk.seen g.U.Disk.may_leave g.U.Disk.is_usable
    (λ line report. card_for report (cause_of l.causes.of_lines.now line) l.causes.day) (take l.one-index l.ended)
    l.initial.storage.queues.items l.storage.queues.items l.initial.storage.spool l.storage.spool l.initial.undelivered l.undelivered
