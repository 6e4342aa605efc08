use Rattle.std.proofs.Common.{drop, inl}
use Rattle.std.proofs.lemmas.Option.{MatchOption-at_some}
use Rattle.std.proofs.lemmas.Result.{err_from_is_err_and}
use Rattle.fax_redial.specs.Begun.{may_restore}
use Rattle.fax_redial.proofs.Restoring.{faulted, has_pages}
use Rattle.fax_redial.proofs.begun.restore_try.Goals as goal

pub returns-in_err-job-clause-answer : goal.returns-in_err-job-clause-answer
returns-in_err-job-clause-answer g c =
    let own = MatchOption-at_some _ _ c.in-Some.name c.in-Some.is c.line_name.ensures in
    let p = err_from_is_err_and c.from_residual-in_err-job.result c.from_residual-in_err-job.ensures.1 in
    faulted (may_restore c.args.call.now c.args.pages.now) (drop c.args.call.now.card.delivered c.args.pages.now) c.from_residual-in_err-job.result p.0 own.1 p.1 (inl p.2)

pub invariant_of-result : goal.invariant_of-result
invariant_of-result g c =
    let own = MatchOption-at_some _ _ c.in-Some.name c.in-Some.is c.line_name.ensures in
    has_pages c.args.call.now c.args.tag c.args.pages.now c.in_ok-job.job c.in_ok-line.line c.in-Some.name.now _ own.1 own.0 c.in_ok-line.ensures.begins c.in_ok-job.ensures
