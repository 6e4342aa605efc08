use Rattle.std.proofs.Common.{inr, [], ◌∷◌, List, ℕ, sym, subst, arith, rules}
use Rattle.sqlite_disk.specs.Disk.{Torn, Holds, Only}
use Rattle.fax_spool.specs.Settled.{IsSettled}
use Rattle.fax_spool.proofs.Steps.{clear_left, none_open, settled_none}
use Rattle.fax_spool.proofs.file.RecordFile.clear.Goals as goal

pub returns-clause-acknowledged : goal.returns-clause-acknowledged
returns-clause-acknowledged g c = λ rs s.
    let shut = settled_none _ _ _ _ _ _ s c.sync.new.self
    (subst (λ (l : List ℕ). Torn 0 3 (g.D.Disk.seen c.args.self.now.disk) l) (sym c.sync.ensures.seen) c.write_at.ensures.others)
    (subst (λ (l : List ℕ). Holds l 0 (0 ∷ 0 ∷ 0 ∷ [])) (sym c.sync.ensures.seen) (c.in_ok-write_at.ensures.written (omega arith)))
    (subst (λ (l : List ℕ). Only l (g.D.Disk.may_leave c.sync.new.self)) (sym c.sync.ensures.seen) c.in_ok-sync.ensures.durable)
    (search (rules, c.in_ok-sync.ensures.usable)) in
    subst (λ (at : ℕ). IsSettled g.D.Disk.seen g.D.Disk.may_leave g.D.Disk.is_usable c.cut.new.self.disk at []) (sym c.cut.ensures.end) (c.in_ok-cut.ensures.acknowledged shut)

pub returns-in_err-write_at-clause-crash : goal.returns-in_err-write_at-clause-crash
returns-in_err-write_at-clause-crash g c = λ rs s f left. clear_left _ _ _ _ _ _ s (omega (arith, c.if-self-eq0.false)) _ c.write_at.ensures.crash f left

pub returns-in_err-sync-clause-crash : goal.returns-in_err-sync-clause-crash
returns-in_err-sync-clause-crash g c = λ rs s f left. clear_left _ _ _ _ _ _ s (omega (arith, c.if-self-eq0.false)) _ c.write_at.ensures.crash f (c.sync.ensures.crash f left)

pub returns-clause-crash : goal.returns-clause-crash
returns-clause-crash g c = λ rs s f left.
    let shut = settled_none _ _ _ _ _ _ s c.sync.new.self
    (subst (λ (l : List ℕ). Torn 0 3 (g.D.Disk.seen c.args.self.now.disk) l) (sym c.sync.ensures.seen) c.write_at.ensures.others)
    (subst (λ (l : List ℕ). Holds l 0 (0 ∷ 0 ∷ 0 ∷ [])) (sym c.sync.ensures.seen) (c.in_ok-write_at.ensures.written (omega arith)))
    (subst (λ (l : List ℕ). Only l (g.D.Disk.may_leave c.sync.new.self)) (sym c.sync.ensures.seen) c.in_ok-sync.ensures.durable)
    (search (rules, c.in_ok-sync.ensures.usable)) in
    inr (c.cut.ensures.crash shut f left)

pub returns-in_err-cut-clause-crash : goal.returns-in_err-cut-clause-crash
returns-in_err-cut-clause-crash g c = λ rs s f left.
    let shut = settled_none _ _ _ _ _ _ s c.sync.new.self
    (subst (λ (l : List ℕ). Torn 0 3 (g.D.Disk.seen c.args.self.now.disk) l) (sym c.sync.ensures.seen) c.write_at.ensures.others)
    (subst (λ (l : List ℕ). Holds l 0 (0 ∷ 0 ∷ 0 ∷ [])) (sym c.sync.ensures.seen) (c.in_ok-write_at.ensures.written (omega arith)))
    (subst (λ (l : List ℕ). Only l (g.D.Disk.may_leave c.sync.new.self)) (sym c.sync.ensures.seen) c.in_ok-sync.ensures.durable)
    (search (rules, c.in_ok-sync.ensures.usable)) in
    inr (c.cut.ensures.crash shut f left)

pub returns-then-self-eq0-clause-acknowledged : goal.returns-then-self-eq0-clause-acknowledged
returns-then-self-eq0-clause-acknowledged g c = λ rs s.
    subst (λ (l : List (List ℕ)). IsSettled g.D.Disk.seen g.D.Disk.may_leave g.D.Disk.is_usable c.args.self.now.disk c.args.self.now.end l)
    (none_open s.front rs s.read (omega (arith, s.place, c.if-self-eq0.true))) s
