use Rattle.std.proofs.Common.{◌++◌, ◌∙◌, List, ℕ, Vec, Global, map, refl, sym, inl, ap, subst, arith}
use Rattle.fax_spool.specs.Calls.{Turns}
use Rattle.fax_spool.specs.StoredPages.{put_again}
use Rattle.fax_spool.specs.RecordOctets.{PageValue}
use Rattle.fax_spool.specs.SpoolRecords.{AreReadAs}
use Rattle.fax_spool.specs.Spools.{greatest_epoch}
use Rattle.fax_spool.specs.Waits.{left_after, waiting}
use Rattle.fax_spool.specs.declared.stored_page.StoredPage.{StoredPage}
use Rattle.fax_spool.proofs.Again.{above_again, left_again, more_again}
use Rattle.fax_spool.proofs.Doing.{as_before, does_err, does_none, does_nothing, does_turn, may_have_turned, told_again}
use Rattle.fax_spool.proofs.KnownPages.{same_kept}
use Rattle.fax_spool.proofs.Order.{order_stays}
use Rattle.fax_spool.proofs.Shares.{shares}
use Rattle.fax_spool.proofs.SpoolSteps.{at_rest, keeps_again, leaves_again, read_all_through}
use Rattle.fax_spool.proofs.spool.Spool.put_again.Goals as goal

pub returns-in_err-append_all-clause-crash : goal.returns-in_err-append_all-clause-crash
returns-in_err-append_all-clause-crash g c = λ olds news k.
    let octets = map (λ (v : Vec ℕ Global). v.items) c.as_slice-3.result.now in
    let are : AreReadAs octets (put_again (waiting (olds ++ news))) =
    read_all_through _ _ (put_again (waiting (olds ++ news))) (ap (λ (l : List (Vec ℕ Global)). map (λ (v : Vec ℕ Global). v.items) l) c.as_slice-3.ensures.value)
    (subst (λ (l : List PageValue). AreReadAs (map (λ (v : Vec ℕ Global). v.items) c.in_ok-items.items.items) (put_again l)) (sym (shares olds news))
    (c.in_ok-items.ensures k.older_items k.newer_items (left_after (waiting olds) news) (waiting news) (same_kept _ _ _ _ _ c.as_slice.ensures.value refl k.older_waits) (same_kept _ _ _ _ _ c.as_slice-2.ensures.value refl k.newer_waits))) in
    leaves_again _ _ _ c.args.self.now (record c.args.self.now { newer = c.append_all.new.file }) olds news k octets are refl c.append_all.ensures.crash

pub returns-clause-crash : goal.returns-clause-crash
returns-clause-crash g c = λ olds news k.
    let octets = map (λ (v : Vec ℕ Global). v.items) c.as_slice-3.result.now in
    let are : AreReadAs octets (put_again (waiting (olds ++ news))) =
    read_all_through _ _ (put_again (waiting (olds ++ news))) (ap (λ (l : List (Vec ℕ Global)). map (λ (v : Vec ℕ Global). v.items) l) c.as_slice-3.ensures.value)
    (subst (λ (l : List PageValue). AreReadAs (map (λ (v : Vec ℕ Global). v.items) c.in_ok-items.items.items) (put_again l)) (sym (shares olds news))
    (c.in_ok-items.ensures k.older_items k.newer_items (left_after (waiting olds) news) (waiting news) (same_kept _ _ _ _ _ c.as_slice.ensures.value refl k.older_waits) (same_kept _ _ _ _ _ c.as_slice-2.ensures.value refl k.newer_waits))) in
    leaves_again _ _ _ c.args.self.now (record c.args.self.now { newer = c.append_all.new.file }) olds news k octets are refl c.append_all.ensures.crash

pub returns-clause-put : goal.returns-clause-put
returns-clause-put g c = λ olds news k.
    let octets = map (λ (v : Vec ℕ Global). v.items) c.as_slice-3.result.now in
    let are : AreReadAs octets (put_again (waiting (olds ++ news))) =
    read_all_through _ _ (put_again (waiting (olds ++ news))) (ap (λ (l : List (Vec ℕ Global)). map (λ (v : Vec ℕ Global). v.items) l) c.as_slice-3.ensures.value)
    (subst (λ (l : List PageValue). AreReadAs (map (λ (v : Vec ℕ Global). v.items) c.in_ok-items.items.items) (put_again l)) (sym (shares olds news))
    (c.in_ok-items.ensures k.older_items k.newer_items (left_after (waiting olds) news) (waiting news) (same_kept _ _ _ _ _ c.as_slice.ensures.value refl k.older_waits) (same_kept _ _ _ _ _ c.as_slice-2.ensures.value refl k.newer_waits))) in (
      left_again olds news,
      keeps_again _ _ _ c.args.self.now (record c.args.self.now { newer = c.append_all.new.file; older_pages = c.swap.new.x; newer_pages = c.swap.new.y; refuses = c.append_all.new.refuses }) olds news k octets are refl
          (c.in_ok-append_all.ensures.acknowledged k.newer_items k.newer)
          (ap (λ (v : Vec StoredPage Global). v.items) c.swap.ensures.x_after ∙ c.in_ok-append.ensures.other_items)
          (ap (λ (v : Vec StoredPage Global). v.items) c.swap.ensures.y_after ∙ c.in_ok-append.ensures.items)
          (grind (arith, c.are_kept_within.ensures.older, c.if-not-are_kept_within.false))
          (grind (arith, c.are_kept_within.ensures.newer, c.if-not-are_kept_within.false))
          refl,
    )

pub returns-then-self-clause-does : goal.returns-then-self-clause-does
returns-then-self-clause-does g c = does_nothing _ _ _ c.args.self.now c.args.self.now Turns

pub returns-then-not-are_kept_within-clause-does : goal.returns-then-not-are_kept_within-clause-does
returns-then-not-are_kept_within-clause-does g c = does_turn _ _ _ c.args.self.now c.args.self.now c.if-self.false (λ olds news k order. (olds, news, k, order, refl))

pub returns-in_err-items-clause-does : goal.returns-in_err-items-clause-does
returns-in_err-items-clause-does g c = does_err _ _ _ c.args.self.now c.args.self.now _ c.from_residual.result Turns c.from_residual.ensures.1 (does_nothing _ _ _ c.args.self.now c.args.self.now Turns)

pub returns-in_err-append-clause-does : goal.returns-in_err-append-clause-does
returns-in_err-append-clause-does g c = does_err _ _ _ c.args.self.now _ _ c.from_residual-in_err-append.result Turns c.from_residual-in_err-append.ensures.1
    (does_none _ _ _ c.args.self.now _ Turns c.if-self.false (as_before _ _ _ c.args.self.now _ refl refl c.in_err-append.ensures.items c.in_err-append.ensures.other_items refl refl))

pub returns-in_err-append_all-clause-does : goal.returns-in_err-append_all-clause-does
returns-in_err-append_all-clause-does g c = does_err _ _ _ c.args.self.now _ _ c.from_residual-in_err-append_all.result Turns c.from_residual-in_err-append_all.ensures.1
    (may_have_turned _ _ _ c.args.self.now (record c.args.self.now { newer = c.append_all.new.file; older_pages = c.swap.new.x; newer_pages = c.swap.new.y; refuses = c.append_all.new.refuses }) c.if-self.false
    (λ olds news k order older newer left. told_again older newer olds news (returns-in_err-append_all-clause-crash g c olds news k older newer left) order) c.in_err-append_all.ensures.failed)

pub returns-clause-does : goal.returns-clause-does
returns-clause-does g c = does_turn _ _ _ c.args.self.now (record c.args.self.now { newer = c.append_all.new.file; older_pages = c.swap.new.x; newer_pages = c.swap.new.y; refuses = c.append_all.new.refuses }) c.if-self.false
    (λ olds news k order.
    let pages = waiting (olds ++ news) in
    (olds, news ++ put_again pages, (returns-clause-put g c olds news k).1, order_stays olds news (put_again pages) (above_again (greatest_epoch olds) pages) order, more_again olds news))

pub returns-then-self-clause-crash : goal.returns-then-self-clause-crash
returns-then-self-clause-crash g c = λ olds news k older newer left. inl (at_rest _ _ _ _ c.args.self.now olds news k older newer left)

pub returns-then-not-are_kept_within-clause-crash : goal.returns-then-not-are_kept_within-clause-crash
returns-then-not-are_kept_within-clause-crash g c = λ olds news k older newer left. inl (at_rest _ _ _ _ c.args.self.now olds news k older newer left)

pub returns-in_err-items-clause-crash : goal.returns-in_err-items-clause-crash
returns-in_err-items-clause-crash g c = λ olds news k older newer left. inl (at_rest _ _ _ _ c.args.self.now olds news k older newer left)

pub returns-in_err-append-clause-crash : goal.returns-in_err-append-clause-crash
returns-in_err-append-clause-crash g c = λ olds news k older newer left. inl (at_rest _ _ _ _ c.args.self.now olds news k older newer left)
