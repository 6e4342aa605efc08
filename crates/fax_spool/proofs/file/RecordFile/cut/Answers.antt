use Rattle.std.proofs.Common.{List, ℕ, sym, subst, rules}
use Rattle.sqlite_disk.specs.Disk.{Cut, Only}
use Rattle.fax_spool.proofs.Steps.{cut_left, settled_cut}
use Rattle.fax_spool.proofs.file.RecordFile.cut.Goals as goal

pub returns-clause-acknowledged : goal.returns-clause-acknowledged
returns-clause-acknowledged g c = λ s.
    settled_cut _ _ _ _ s c.sync.new.self
    (subst (λ (l : List ℕ). Cut 3 (g.D.Disk.seen c.args.self.now.disk) l) (sym c.sync.ensures.seen) c.set_len.ensures.others)
    (subst (λ (l : List ℕ). Only l (g.D.Disk.may_leave c.sync.new.self)) (sym c.sync.ensures.seen) c.in_ok-sync.ensures.durable)
    (search (rules, c.in_ok-sync.ensures.usable))

pub returns-in_err-set_len-clause-crash : goal.returns-in_err-set_len-clause-crash
returns-in_err-set_len-clause-crash g c = λ s f left. cut_left _ _ _ _ s _ c.set_len.ensures.crash f left

pub returns-in_err-sync-clause-crash : goal.returns-in_err-sync-clause-crash
returns-in_err-sync-clause-crash g c = λ s f left. cut_left _ _ _ _ s _ c.set_len.ensures.crash f (c.sync.ensures.crash f left)

pub returns-clause-crash : goal.returns-clause-crash
returns-clause-crash g c = λ s f left. cut_left _ _ _ _ s _ c.set_len.ensures.crash f (c.sync.ensures.crash f left)
