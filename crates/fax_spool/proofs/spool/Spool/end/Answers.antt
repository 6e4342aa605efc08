use Rattle.std.proofs.Common.{[], ◌∷◌, refl, inl, arith}
use Rattle.fax_spool.specs.Waits.{waiting, left_after}
use Rattle.fax_spool.specs.declared.spool_record.SpoolRecord.TheVariants.{Ended}
use Rattle.fax_spool.specs.Calls.{Ends}
use Rattle.fax_spool.proofs.Doing.{does_err, does_nothing, does_put, may_have_put, one_more}
use Rattle.fax_spool.proofs.KnownPages.{kept_left, kept_more, same_kept}
use Rattle.fax_spool.proofs.SpoolSteps.{at_rest, keeps_more, leaves_more, read_through}
use Rattle.fax_spool.proofs.spool.Spool.end.Goals as goal

pub returns-in_err-octets-clause-crash : goal.returns-in_err-octets-clause-crash
returns-in_err-octets-clause-crash g c = λ olds news k older newer left. inl (at_rest _ _ _ _ c.args.self.now olds news k older newer left)

pub returns-in_err-append-clause-crash : goal.returns-in_err-append-clause-crash
returns-in_err-append-clause-crash g c = λ olds news k.
    leaves_more _ _ _ _ (record c.args.self.now { newer = c.append.new.file }) olds news k c.as_slice.result.now (Ended c.args.ended.now) (read_through _ _ (Ended c.args.ended.now) c.as_slice.ensures.value c.in_ok-octets.ensures) refl c.append.ensures.crash

pub returns-clause-crash : goal.returns-clause-crash
returns-clause-crash g c = λ olds news k.
    leaves_more _ _ _ _ (record c.args.self.now { newer = c.append.new.file }) olds news k c.as_slice.result.now (Ended c.args.ended.now) (read_through _ _ (Ended c.args.ended.now) c.as_slice.ensures.value c.in_ok-octets.ensures) refl c.append.ensures.crash

pub returns-clause-acknowledged : goal.returns-clause-acknowledged
returns-clause-acknowledged g c = λ olds news k.
    keeps_more _ _ _ _ _ olds news k c.as_slice.result.now (Ended c.args.ended.now) (read_through _ _ (Ended c.args.ended.now) c.as_slice.ensures.value c.in_ok-octets.ensures) refl
    (c.in_ok-append.ensures.acknowledged k.newer_items k.newer)
    (same_kept _ _ _ _ _ c.forget_ended.ensures refl (kept_left _ c.args.ended.now _ (left_after (waiting olds) news) k.older_waits))
    (same_kept _ _ _ _ _ c.forget_ended-2.ensures refl (kept_left _ c.args.ended.now _ (waiting news) (kept_more _ _ _ _ k.newer_waits)))
    (omega arith) (omega arith)

pub returns-then-self-clause-does : goal.returns-then-self-clause-does
returns-then-self-clause-does g c = does_nothing _ _ _ c.args.self.now c.args.self.now (Ends (c.args.ended.now ∷ []))

pub returns-in_err-octets-clause-does : goal.returns-in_err-octets-clause-does
returns-in_err-octets-clause-does g c = does_err _ _ _ c.args.self.now _ _ c.from_residual.result (Ends (c.args.ended.now ∷ [])) c.from_residual.ensures.1 (does_nothing _ _ _ c.args.self.now c.args.self.now (Ends (c.args.ended.now ∷ [])))

pub returns-in_err-append-clause-does : goal.returns-in_err-append-clause-does
returns-in_err-append-clause-does g c = does_err _ _ _ c.args.self.now _ _ c.from_residual-in_err-append.result (Ends (c.args.ended.now ∷ [])) c.from_residual-in_err-append.ensures.1
    (may_have_put _ _ _ c.args.self.now _ (Ends (c.args.ended.now ∷ [])) (Ended c.args.ended.now ∷ []) (one_more (Ended c.args.ended.now)) (λ n. tt) c.if-self.false (returns-in_err-append-clause-crash g c) c.in_err-append.ensures.failed)

pub returns-clause-does : goal.returns-clause-does
returns-clause-does g c = does_put _ _ _ c.args.self.now _ (Ends (c.args.ended.now ∷ [])) (Ended c.args.ended.now ∷ []) (one_more (Ended c.args.ended.now)) (λ n. tt) c.if-self.false (returns-clause-acknowledged g c)

pub returns-then-self-clause-crash : goal.returns-then-self-clause-crash
returns-then-self-clause-crash g c = λ olds news k older newer left. inl (at_rest _ _ _ _ c.args.self.now olds news k older newer left)
