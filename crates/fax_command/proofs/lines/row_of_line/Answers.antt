use Rattle.std.proofs.Common.{◌≡◌, length, sum, inl, inr, sym, ◌∙◌, ap, subst}
use Rattle.fax_runcodes.specs.declared.Colour.TheVariants.{White}
use Rattle.fax_runcodes.specs.Rows.{AreRunsOfRow}
use Rattle.fax_runcodes.specs.Widths.{elements_of}
use Rattle.fax_command.proofs.TellLemmas.{length-stretches, runs_of_line, sum_of_runs}
use Rattle.fax_command.proofs.lines.row_of_line.Goals as goal

pub returns-in_default-clause-none : goal.returns-in_default-clause-none
returns-in_default-clause-none c = λ is_line.
    let (runs, total, are, is) = runs_of_line c.args.width c.args.line.now is_line in
    rw c.in_default.is at (c.in_ok-runs.ensures.only runs (sum_of_runs c.args.width runs total).0 (sum_of_runs c.args.width runs total).1 is)

pub returns-in-Err-BadRuns-clause-none : goal.returns-in-Err-BadRuns-clause-none
returns-in-Err-BadRuns-clause-none c = λ is_line.
    let (runs, total, are, is) = runs_of_line c.args.width c.args.line.now is_line in
    let same = rw c.in-Some.is at (c.in_ok-runs.ensures.only runs (sum_of_runs c.args.width runs total).0 (sum_of_runs c.args.width runs total).1 is) in
    let made : AreRunsOfRow c.as_slice.result.now = subst AreRunsOfRow (sym same ∙ sym c.as_slice.ensures.value) are in
    elim (c.in-Err-BadRuns.ensures.made made) [ inl e ↦ cc | inr e ↦ cc ]

pub returns-clause-none : goal.returns-clause-none
returns-clause-none c = λ is_line.
    let (runs, total, are, is) = runs_of_line c.args.width c.args.line.now is_line in
    let same = rw c.in-Some.is at (c.in_ok-runs.ensures.only runs (sum_of_runs c.args.width runs total).0 (sum_of_runs c.args.width runs total).1 is) in
    let wide : sum c.as_slice.result.now ≡ elements_of c.args.width = ap sum (c.as_slice.ensures.value ∙ same) ∙ total in
    let long = ap length c.in-Ok.ensures.ok.1 ∙ length-stretches White c.as_slice.result.now in
    c.if-width-elements.false (c.width.ensures.len ∙ long ∙ wide ∙ sym c.elements.ensures)
