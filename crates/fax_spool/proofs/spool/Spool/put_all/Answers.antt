use Rattle.std.proofs.Common.{◌++◌, List, ℕ, Vec, Global, map, refl, sym, subst, inl, ap}
use Rattle.fax_spool.specs.SpoolRecords.{page_record}
use Rattle.fax_spool.specs.Calls.{Puts}
use Rattle.fax_spool.proofs.Doing.{as_before, does_err, does_none, does_nothing, does_put, may_have_put, more_pages}
use Rattle.fax_spool.specs.StoredPages.{AreKnownAs}
use Rattle.fax_spool.proofs.KnownPages.{kept_append, kept_more, same_kept}
use Rattle.fax_spool.proofs.Order.{above_pages}
use Rattle.fax_spool.proofs.Places.{settled_end}
use Rattle.fax_spool.proofs.SpoolSteps.{at_rest, keeps_pages, leaves_pages, read_all_through}
use Rattle.fax_spool.proofs.spool.Spool.put_all.Goals as goal

pub returns-in_err-append_all-clause-crash : goal.returns-in_err-append_all-clause-crash
returns-in_err-append_all-clause-crash g c = λ olds news k.
    let are = read_all_through _ _ (map page_record c.args.pages.now) (ap (λ (l : List (Vec ℕ Global)). map (λ (v : Vec ℕ Global). v.items) l) c.as_slice.ensures.value) c.in_ok-sealed.ensures.items in
    leaves_pages _ _ _ c.args.self.now (record c.args.self.now { newer = c.append_all.new.file }) olds news k (map (λ (v : Vec ℕ Global). v.items) c.as_slice.result.now) c.args.pages.now are refl c.append_all.ensures.crash

pub returns-clause-crash : goal.returns-clause-crash
returns-clause-crash g c = λ olds news k.
    let are = read_all_through _ _ (map page_record c.args.pages.now) (ap (λ (l : List (Vec ℕ Global)). map (λ (v : Vec ℕ Global). v.items) l) c.as_slice.ensures.value) c.in_ok-sealed.ensures.items in
    leaves_pages _ _ _ c.args.self.now (record c.args.self.now { newer = c.append_all.new.file }) olds news k (map (λ (v : Vec ℕ Global). v.items) c.as_slice.result.now) c.args.pages.now are refl c.append_all.ensures.crash

pub returns-clause-acknowledged : goal.returns-clause-acknowledged
returns-clause-acknowledged g c = λ olds news k.
    let are = read_all_through _ _ (map page_record c.args.pages.now) (ap (λ (l : List (Vec ℕ Global)). map (λ (v : Vec ℕ Global). v.items) l) c.as_slice.ensures.value) c.in_ok-sealed.ensures.items in
    keeps_pages _ _ _ c.args.self.now _ olds news k (map (λ (v : Vec ℕ Global). v.items) c.as_slice.result.now) c.args.pages.now are refl
    (c.in_ok-append_all.ensures.acknowledged k.newer_items k.newer) refl
    (same_kept _ _ _ _ _ c.in_ok-append.ensures.items refl (kept_append _ _ _ _ _ (kept_more _ _ _ _ k.newer_waits)
    (subst (λ (l : List (Vec ℕ Global)). AreKnownAs (k.newer_items ++ map (λ (v : Vec ℕ Global). v.items) l) c.in_ok-sealed.sealed.kept.items c.args.pages.now) (sym c.as_slice.ensures.value)
    (c.in_ok-sealed.ensures.kept k.newer_items (sym (settled_end _ _ _ _ _ _ k.newer)))))) refl

pub returns-then-self-clause-does : goal.returns-then-self-clause-does
returns-then-self-clause-does g c = does_nothing _ _ _ c.args.self.now c.args.self.now (Puts c.args.pages.now)

pub returns-in_err-sealed-clause-does : goal.returns-in_err-sealed-clause-does
returns-in_err-sealed-clause-does g c = does_err _ _ _ c.args.self.now _ _ c.from_residual.result (Puts c.args.pages.now) c.from_residual.ensures.1 (does_nothing _ _ _ c.args.self.now c.args.self.now (Puts c.args.pages.now))

pub returns-in_err-append-clause-does : goal.returns-in_err-append-clause-does
returns-in_err-append-clause-does g c = does_err _ _ _ c.args.self.now _ _ c.from_residual-in_err-append.result (Puts c.args.pages.now) c.from_residual-in_err-append.ensures.1
    (does_none _ _ _ c.args.self.now _ (Puts c.args.pages.now) c.if-self.false (as_before _ _ _ c.args.self.now _ refl refl refl c.in_err-append.ensures.items refl refl))

pub returns-in_err-append_all-clause-does : goal.returns-in_err-append_all-clause-does
returns-in_err-append_all-clause-does g c = does_err _ _ _ c.args.self.now _ _ c.from_residual-in_err-append_all.result (Puts c.args.pages.now) c.from_residual-in_err-append_all.ensures.1
    (may_have_put _ _ _ c.args.self.now _ (Puts c.args.pages.now) (map page_record c.args.pages.now) (more_pages c.args.pages.now) (λ n. above_pages n c.args.pages.now) c.if-self.false (returns-in_err-append_all-clause-crash g c) c.in_err-append_all.ensures.failed)

pub returns-clause-does : goal.returns-clause-does
returns-clause-does g c = does_put _ _ _ c.args.self.now _ (Puts c.args.pages.now) (map page_record c.args.pages.now) (more_pages c.args.pages.now) (λ n. above_pages n c.args.pages.now) c.if-self.false (returns-clause-acknowledged g c)

pub returns-then-self-clause-crash : goal.returns-then-self-clause-crash
returns-then-self-clause-crash g c = λ olds news k older newer left. inl (at_rest _ _ _ _ c.args.self.now olds news k older newer left)

pub returns-in_err-sealed-clause-crash : goal.returns-in_err-sealed-clause-crash
returns-in_err-sealed-clause-crash g c = λ olds news k older newer left. inl (at_rest _ _ _ _ c.args.self.now olds news k older newer left)

pub returns-in_err-append-clause-crash : goal.returns-in_err-append-clause-crash
returns-in_err-append-clause-crash g c = λ olds news k older newer left. inl (at_rest _ _ _ _ c.args.self.now olds news k older newer left)
