use Rattle.std.proofs.Common.{drop, inr, refl}
use Rattle.std.proofs.lemmas.Result.{err_from_is_err_and}
use Rattle.fax_redial.proofs.Restoring.{begins_left, for_memory, lacks_one, none_aside, some_aside}
use Rattle.fax_redial.proofs.begun.line_of_job.Goals as goal

pub returns-in_err-calls-clause-fault : goal.returns-in_err-calls-clause-fault
returns-in_err-calls-clause-fault g c =
    let p = err_from_is_err_and c.from_residual.result c.from_residual.ensures.1 in
    for_memory (drop c.args.delivered c.args.pages.now) c.from_residual.result p.0 p.1 p.2

pub returns-then-lacks_page-clause-fault : goal.returns-then-lacks_page-clause-fault
returns-then-lacks_page-clause-fault g c =
    inr (
      refl,
      lacks_one c.args.name.now c.args.pages.now c.min-first.result c.args.delivered c.in_ok-calls.field-0 c.whole_lines_are_restored.ensures c.min-first.ensures c.in_ok-calls.ensures
          (some_aside c.in_ok-calls.field-0.queue.aside c.lacks_page.result c.lacks_page.ensures c.if-lacks_page.true),
    )

pub returns-in_err-restore-clause-fault : goal.returns-in_err-restore-clause-fault
returns-in_err-restore-clause-fault g c =
    let p = err_from_is_err_and c.from_residual-in_err-restore.result c.from_residual-in_err-restore.ensures.1 in
    for_memory (drop c.args.delivered c.args.pages.now) c.from_residual-in_err-restore.result p.0 p.1 p.2

pub returns-clause-begins : goal.returns-clause-begins
returns-clause-begins g c =
    begins_left c.args.name.now c.args.pages.now c.min-first.result c.args.delivered c.in_ok-calls.field-0 c.in_ok-restore.field-0 c.whole_lines_are_restored.ensures c.min-first.ensures c.in_ok-calls.ensures
    (none_aside c.in_ok-calls.field-0.queue.aside c.lacks_page.result c.lacks_page.ensures c.if-lacks_page.false) c.in_ok-restore.ensures.begins
