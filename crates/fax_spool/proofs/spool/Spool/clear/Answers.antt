use Rattle.std.proofs.Common.{◌≡◌, [], true, false, length, refl, sym, ap, inl, arith}
use Rattle.fax_spool.proofs.Loops.{none_more}
use Rattle.fax_spool.specs.Calls.{Turns}
use Rattle.fax_spool.proofs.Doing.{does_err, does_nothing, does_turn, may_have_turned, none_gone, told_cleared}
use Rattle.fax_spool.proofs.KnownPages.{none_kept, same_kept}
use Rattle.fax_spool.proofs.SpoolSteps.{at_rest, none_waits, keeps_cleared, leaves_cleared}
use Rattle.fax_spool.proofs.spool.Spool.clear.Goals as goal

pub returns-in_err-clear-clause-crash : goal.returns-in_err-clear-clause-crash
returns-in_err-clear-clause-crash g c = λ olds news k.
    let none : c.args.self.now.older_pages.items ≡ [] = none_more c.args.self.now.older_pages.items (grind (arith, c.if-not-is_empty.false, c.is_empty.ensures)) in
    leaves_cleared _ _ _ c.args.self.now (record c.args.self.now { older = c.clear.new.self; refuses = true }) olds news k none refl c.clear.ensures.crash

pub returns-clause-crash : goal.returns-clause-crash
returns-clause-crash g c = λ olds news k.
    let none : c.args.self.now.older_pages.items ≡ [] = none_more c.args.self.now.older_pages.items (grind (arith, c.if-not-is_empty.false, c.is_empty.ensures)) in
    leaves_cleared _ _ _ c.args.self.now (record c.args.self.now { older = c.clear.new.self; refuses = false }) olds news k none refl c.clear.ensures.crash

pub returns-clause-cleared : goal.returns-clause-cleared
returns-clause-cleared g c = λ olds news k.
    let none : c.args.self.now.older_pages.items ≡ [] = none_more c.args.self.now.older_pages.items (grind (arith, c.if-not-is_empty.false, c.is_empty.ensures)) in (
      none_waits _ _ _ c.args.self.now c.args.self.now olds news k none,
      keeps_cleared _ _ _ c.args.self.now (record c.args.self.now { older = c.clear.new.self; refuses = false }) olds news k
          (c.in_ok-clear.ensures.acknowledged k.older_items k.older) refl none refl refl,
    )

pub returns-then-not-is_empty-clause-cleared : goal.returns-then-not-is_empty-clause-cleared
returns-then-not-is_empty-clause-cleared g c = λ olds news k. (
  λ none. let zero : length c.args.self.now.older_pages.items ≡ 0 = ap length (none_kept _ _ (same_kept _ _ _ _ _ refl (sym none) k.older_waits)) in absurd (grind (arith, c.if-not-is_empty.true, c.is_empty.ensures, zero)),
  k,
)

pub returns-then-not-may_be_used-clause-failed : goal.returns-then-not-may_be_used-clause-failed
returns-then-not-may_be_used-clause-failed g c = λ olds news k. absurd (grind (arith, c.if-not-may_be_used.true, c.may_be_used.ensures, k.older.usable))

pub returns-then-self-clause-does : goal.returns-then-self-clause-does
returns-then-self-clause-does g c = does_nothing _ _ _ c.args.self.now c.args.self.now Turns

pub returns-then-not-is_empty-clause-does : goal.returns-then-not-is_empty-clause-does
returns-then-not-is_empty-clause-does g c = does_turn _ _ _ c.args.self.now c.args.self.now c.if-self.false (λ olds news k order. (olds, news, k, order, refl))

pub returns-then-not-may_be_used-clause-does : goal.returns-then-not-may_be_used-clause-does
returns-then-not-may_be_used-clause-does g c = does_nothing _ _ _ c.args.self.now c.args.self.now Turns

pub returns-in_err-clear-clause-does : goal.returns-in_err-clear-clause-does
returns-in_err-clear-clause-does g c = does_err _ _ _ c.args.self.now _ _ c.from_residual.result Turns c.from_residual.ensures.1
    (may_have_turned _ _ _ c.args.self.now (record c.args.self.now { older = c.clear.new.self; refuses = true }) c.if-self.false
    (λ olds news k order older newer left. told_cleared _ _ olds news (returns-in_err-clear-clause-crash g c olds news k older newer left) order) refl)

pub returns-clause-does : goal.returns-clause-does
returns-clause-does g c = does_turn _ _ _ c.args.self.now (record c.args.self.now { older = c.clear.new.self; refuses = false }) c.if-self.false
    (λ olds news k order. let is = returns-clause-cleared g c olds news k in ([], news, is.1, inl refl, none_gone olds news is.0))

pub returns-then-self-clause-crash : goal.returns-then-self-clause-crash
returns-then-self-clause-crash g c = λ olds news k older newer left. inl (at_rest _ _ _ _ c.args.self.now olds news k older newer left)

pub returns-then-not-is_empty-clause-crash : goal.returns-then-not-is_empty-clause-crash
returns-then-not-is_empty-clause-crash g c = λ olds news k older newer left. inl (at_rest _ _ _ _ c.args.self.now olds news k older newer left)
