use Rattle.std.proofs.Common.{◌++◌, List, ℕ, Vec, Global, map, refl, inl, ap}
use Rattle.fax_spool.specs.SpoolRecords.{ended_record}
use Rattle.fax_spool.specs.Waits.{waiting, left_after}
use Rattle.fax_spool.specs.Calls.{Ends}
use Rattle.fax_spool.proofs.Doing.{does_err, does_nothing, does_put, may_have_put}
use Rattle.fax_spool.proofs.KnownPages.{kept_left_all, kept_more, same_kept}
use Rattle.fax_spool.proofs.Order.{above_ends}
use Rattle.fax_spool.proofs.SpoolSteps.{at_rest, keeps_ends, leaves_ends, more_ends, read_all_through}
use Rattle.fax_spool.proofs.spool.Spool.end_all.Goals as goal

pub returns-in_err-append_all-clause-crash : goal.returns-in_err-append_all-clause-crash
returns-in_err-append_all-clause-crash g c = λ olds news k.
    let are = read_all_through _ _ (map ended_record c.args.ended.now) (ap (λ (l : List (Vec ℕ Global)). map (λ (v : Vec ℕ Global). v.items) l) c.as_slice.ensures.value) c.in_ok-items.ensures in
    leaves_ends _ _ _ c.args.self.now (record c.args.self.now { newer = c.append_all.new.file }) olds news k (map (λ (v : Vec ℕ Global). v.items) c.as_slice.result.now) c.args.ended.now are refl c.append_all.ensures.crash

pub returns-clause-crash : goal.returns-clause-crash
returns-clause-crash g c = λ olds news k.
    let are = read_all_through _ _ (map ended_record c.args.ended.now) (ap (λ (l : List (Vec ℕ Global)). map (λ (v : Vec ℕ Global). v.items) l) c.as_slice.ensures.value) c.in_ok-items.ensures in
    leaves_ends _ _ _ c.args.self.now (record c.args.self.now { newer = c.append_all.new.file }) olds news k (map (λ (v : Vec ℕ Global). v.items) c.as_slice.result.now) c.args.ended.now are refl c.append_all.ensures.crash

pub returns-clause-acknowledged : goal.returns-clause-acknowledged
returns-clause-acknowledged g c = λ olds news k.
    let are = read_all_through _ _ (map ended_record c.args.ended.now) (ap (λ (l : List (Vec ℕ Global)). map (λ (v : Vec ℕ Global). v.items) l) c.as_slice.ensures.value) c.in_ok-items.ensures in
    keeps_ends _ _ _ c.args.self.now _ olds news k (map (λ (v : Vec ℕ Global). v.items) c.as_slice.result.now) c.args.ended.now are refl
    (c.in_ok-append_all.ensures.acknowledged k.newer_items k.newer)
    (same_kept _ _ _ _ _ c.forget_all_ended.ensures refl (kept_left_all _ c.args.ended.now _ (left_after (waiting olds) news) k.older_waits))
    (same_kept _ _ _ _ _ c.forget_all_ended-2.ensures refl (kept_left_all _ c.args.ended.now _ (waiting news) (kept_more _ _ _ _ k.newer_waits))) refl

pub returns-then-self-clause-does : goal.returns-then-self-clause-does
returns-then-self-clause-does g c = does_nothing _ _ _ c.args.self.now c.args.self.now (Ends c.args.ended.now)

pub returns-in_err-items-clause-does : goal.returns-in_err-items-clause-does
returns-in_err-items-clause-does g c = does_err _ _ _ c.args.self.now _ _ c.from_residual.result (Ends c.args.ended.now) c.from_residual.ensures.1 (does_nothing _ _ _ c.args.self.now c.args.self.now (Ends c.args.ended.now))

pub returns-in_err-append_all-clause-does : goal.returns-in_err-append_all-clause-does
returns-in_err-append_all-clause-does g c = does_err _ _ _ c.args.self.now _ _ c.from_residual-in_err-append_all.result (Ends c.args.ended.now) c.from_residual-in_err-append_all.ensures.1
    (may_have_put _ _ _ c.args.self.now _ (Ends c.args.ended.now) (map ended_record c.args.ended.now) (more_ends c.args.ended.now) (λ n. above_ends n c.args.ended.now) c.if-self.false (returns-in_err-append_all-clause-crash g c) c.in_err-append_all.ensures.failed)

pub returns-clause-does : goal.returns-clause-does
returns-clause-does g c = does_put _ _ _ c.args.self.now _ (Ends c.args.ended.now) (map ended_record c.args.ended.now) (more_ends c.args.ended.now) (λ n. above_ends n c.args.ended.now) c.if-self.false (returns-clause-acknowledged g c)

pub returns-then-self-clause-crash : goal.returns-then-self-clause-crash
returns-then-self-clause-crash g c = λ olds news k older newer left. inl (at_rest _ _ _ _ c.args.self.now olds news k older newer left)

pub returns-in_err-items-clause-crash : goal.returns-in_err-items-clause-crash
returns-in_err-items-clause-crash g c = λ olds news k older newer left. inl (at_rest _ _ _ _ c.args.self.now olds news k older newer left)
