use Rattle.std.proofs.Common.{◌≡◌, ◌+◌, ℕ, List, refl, inl, inr, Vec, Global, map, sym, ap, subst, arith}
use Rattle.fax_spool.specs.Settled.{IsSettled}
use Rattle.fax_spool.specs.declared.stored_page.StoredPage.{StoredPage}
use Rattle.fax_spool.specs.declared.file.RecordFile.{RecordFile}
use Rattle.fax_spool.specs.Spools.{epoch_records}
use Rattle.fax_spool.specs.Calls.{Turns}
use Rattle.fax_spool.proofs.Doing.{does_err, does_nothing, does_turn, may_have_turned, more_epoch, told_changed}
use Rattle.fax_spool.proofs.SpoolSteps.{at_rest, none_told, keeps_changed, leaves_changed, read_all_through}
use Rattle.fax_spool.proofs.Order.{order_changed}
use Rattle.fax_spool.proofs.spool.Spool.change.Goals as goal

pub returns-in_err-append_all-clause-crash : goal.returns-in_err-append_all-clause-crash
returns-in_err-append_all-clause-crash g c = λ olds news k older newer left.
    let old = c.args.self.now in
    let new = record old { older = c.swap.new.x; newer = c.append_all.new.file; older_pages = c.swap-2.new.x; newer_pages = c.swap-2.new.y; epoch = old.epoch + 1; refuses = c.append_all.new.refuses } in
    inr (leaves_changed _ _ _ old new olds news k (grind (arith, c.if-self-ne0.false)) (map (λ (v : Vec ℕ Global). v.items) c.as_slice.result.now) (old.epoch + 1) (read_all_through _ _ (epoch_records (old.epoch + 1)) (ap (λ (l : List (Vec ℕ Global)). map (λ (v : Vec ℕ Global). v.items) l) c.as_slice.ensures.value) c.in_ok-items.ensures) c.swap.ensures.x_after
    (λ rs s. c.append_all.ensures.crash rs (subst (λ (f : RecordFile g.row.D.Denot). IsSettled g.D.Disk.seen g.D.Disk.may_leave g.D.Disk.is_usable f.disk f.end rs) (sym c.swap.ensures.y_after) s)) older newer left)

pub returns-clause-crash : goal.returns-clause-crash
returns-clause-crash g c = λ olds news k older newer left.
    let old = c.args.self.now in
    let new = record old { older = c.swap.new.x; newer = c.append_all.new.file; older_pages = c.swap-2.new.x; newer_pages = c.swap-2.new.y; epoch = old.epoch + 1; refuses = c.append_all.new.refuses } in
    inr (leaves_changed _ _ _ old new olds news k (grind (arith, c.if-self-ne0.false)) (map (λ (v : Vec ℕ Global). v.items) c.as_slice.result.now) (old.epoch + 1) (read_all_through _ _ (epoch_records (old.epoch + 1)) (ap (λ (l : List (Vec ℕ Global)). map (λ (v : Vec ℕ Global). v.items) l) c.as_slice.ensures.value) c.in_ok-items.ensures) c.swap.ensures.x_after
    (λ rs s. c.append_all.ensures.crash rs (subst (λ (f : RecordFile g.row.D.Denot). IsSettled g.D.Disk.seen g.D.Disk.may_leave g.D.Disk.is_usable f.disk f.end rs) (sym c.swap.ensures.y_after) s)) older newer left)

pub returns-clause-changed : goal.returns-clause-changed
returns-clause-changed g c = λ olds news k.
    let old = c.args.self.now in
    let new = record old { older = c.swap.new.x; newer = c.append_all.new.file; older_pages = c.swap-2.new.x; newer_pages = c.swap-2.new.y; epoch = old.epoch + 1; refuses = c.append_all.new.refuses } in
    let empty : old.older.end ≡ 0 = grind (arith, c.if-self-ne0.false) in (
      none_told _ _ _ old new olds news k empty,
      omega (arith, k.epoch),
      keeps_changed _ _ _ old new olds news k empty (map (λ (v : Vec ℕ Global). v.items) c.as_slice.result.now) (old.epoch + 1) (read_all_through _ _ (epoch_records (old.epoch + 1)) (ap (λ (l : List (Vec ℕ Global)). map (λ (v : Vec ℕ Global). v.items) l) c.as_slice.ensures.value) c.in_ok-items.ensures) c.swap.ensures.x_after
          (λ rs s. c.in_ok-append_all.ensures.acknowledged rs (subst (λ (f : RecordFile g.row.D.Denot). IsSettled g.D.Disk.seen g.D.Disk.may_leave g.D.Disk.is_usable f.disk f.end rs) (sym c.swap.ensures.y_after) s))
          (ap (λ (v : Vec StoredPage Global). v.items) c.swap-2.ensures.x_after)
          (ap (λ (v : Vec StoredPage Global). v.items) c.swap-2.ensures.y_after)
          (omega arith),
    )

pub returns-then-self-clause-does : goal.returns-then-self-clause-does
returns-then-self-clause-does g c = does_nothing _ _ _ c.args.self.now c.args.self.now Turns

pub returns-then-self-ne0-clause-does : goal.returns-then-self-ne0-clause-does
returns-then-self-ne0-clause-does g c = does_turn _ _ _ c.args.self.now c.args.self.now c.if-self.false (λ olds news k order. (olds, news, k, order, refl))

pub returns-then-self-2-clause-does : goal.returns-then-self-2-clause-does
returns-then-self-2-clause-does g c = does_nothing _ _ _ c.args.self.now c.args.self.now Turns

pub returns-in_err-items-clause-does : goal.returns-in_err-items-clause-does
returns-in_err-items-clause-does g c = does_err _ _ _ c.args.self.now c.args.self.now _ c.from_residual.result Turns c.from_residual.ensures.1 (does_nothing _ _ _ c.args.self.now c.args.self.now Turns)

pub returns-in_err-append_all-clause-does : goal.returns-in_err-append_all-clause-does
returns-in_err-append_all-clause-does g c =
    let new = record c.args.self.now { older = c.swap.new.x; newer = c.append_all.new.file; older_pages = c.swap-2.new.x; newer_pages = c.swap-2.new.y; epoch = c.args.self.now.epoch + 1; refuses = c.append_all.new.refuses } in
    let empty : c.args.self.now.older.end ≡ 0 = grind (arith, c.if-self-ne0.false) in
    does_err _ _ _ c.args.self.now new _ c.from_residual-in_err-append_all.result Turns c.from_residual-in_err-append_all.ensures.1
    (may_have_turned _ _ _ c.args.self.now new c.if-self.false
    (λ olds news k order older newer left. told_changed _ _ olds news _ (none_told _ _ _ c.args.self.now new olds news k empty) (returns-in_err-append_all-clause-crash g c olds news k older newer left) (omega (arith, k.epoch))) c.in_err-append_all.ensures.failed)

pub returns-clause-does : goal.returns-clause-does
returns-clause-does g c =
    let new = record c.args.self.now { older = c.swap.new.x; newer = c.append_all.new.file; older_pages = c.swap-2.new.x; newer_pages = c.swap-2.new.y; epoch = c.args.self.now.epoch + 1; refuses = c.append_all.new.refuses } in
    does_turn _ _ _ c.args.self.now new c.if-self.false
    (λ olds news k order. let is = returns-clause-changed g c olds news k in (news, epoch_records (c.args.self.now.epoch + 1), is.2, order_changed news (c.args.self.now.epoch + 1) is.1, more_epoch olds news (c.args.self.now.epoch + 1) is.0))

pub returns-then-self-clause-crash : goal.returns-then-self-clause-crash
returns-then-self-clause-crash g c = λ olds news k older newer left. inl (at_rest _ _ _ _ c.args.self.now olds news k older newer left)

pub returns-then-self-ne0-clause-crash : goal.returns-then-self-ne0-clause-crash
returns-then-self-ne0-clause-crash g c = λ olds news k older newer left. inl (at_rest _ _ _ _ c.args.self.now olds news k older newer left)

pub returns-then-self-2-clause-crash : goal.returns-then-self-2-clause-crash
returns-then-self-2-clause-crash g c = λ olds news k older newer left. inl (at_rest _ _ _ _ c.args.self.now olds news k older newer left)

pub returns-in_err-items-clause-crash : goal.returns-in_err-items-clause-crash
returns-in_err-items-clause-crash g c = λ olds news k older newer left. inl (at_rest _ _ _ _ c.args.self.now olds news k older newer left)
