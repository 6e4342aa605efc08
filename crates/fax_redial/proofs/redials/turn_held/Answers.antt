use Rattle.std.proofs.Common.{Option, ap, ◌∙◌}
use Rattle.fax_jobs.specs.declared.report.Report.{Report}
use Rattle.fax_redial.specs.Totals.{total_if}
use Rattle.fax_redial.specs.Tries.{TryValue}
use Rattle.fax_redial.proofs.Counting.{turns_counted}
use Rattle.fax_redial.proofs.redials.turn_held.Goals as goal

pub returns-in-Some-clause-turns : goal.returns-in-Some-clause-turns
returns-in-Some-clause-turns g c =
    let next : TryValue = c.turn-turned.new.self in
    turns_counted c.args.now c.args.cause c.args.held.now next c.count.new.self c.turn-turned.result c.turn-turned.ensures.told c.turn-turned.ensures.job c.turn-turned.ensures.total c.turn-turned.ensures.goes
    (c.count.ensures ∙ ap (λ (r : Option Report). record next { total = total_if r c.args.cause next.total }) c.report_of.ensures)
