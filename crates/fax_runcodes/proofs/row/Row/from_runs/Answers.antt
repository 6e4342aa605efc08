use Rattle.std.proofs.Common.{◌≡◌, ℕ, List, Option, Some, sum, Ok, sym, subst, ap, refl, inl, IsSome, IfSome, ◌↔◌}
use Rattle.std.proofs.lemmas.Option.{MatchOption-at_some}
use Rattle.fax_runcodes.specs.Rows.{IsWidth, AreRunsOfRow, stretches}
use Rattle.fax_runcodes.specs.Painted.{painted, AreRising}
use Rattle.fax_runcodes.specs.declared.Colour.TheVariants.{White}
use Rattle.fax_runcodes.proofs.RunsOfRow.{row_of_runs}
use Rattle.fax_runcodes.proofs.row.Row.from_runs.Goals as goal

runs_judged : (judged : Option ℕ) (width : ℕ) (runs : List ℕ) → judged ≡ Some width → IsSome judged ↔ AreRunsOfRow runs → AreRunsOfRow runs
runs_judged judged width runs e is = is.0 (subst (λ (o : Option ℕ). IsSome o) (sym e) refl)

width_judged : (judged : Option ℕ) (width : ℕ) (runs : List ℕ) → judged ≡ Some width → IfSome judged (λ w. w ≡ sum runs) → width ≡ sum runs
width_judged judged width runs e is = MatchOption-at_some _ (λ (w : ℕ). w ≡ sum runs) width e is

made : (c : goal.In_ok-changes) → AreRunsOfRow c.args.runs.now × AreRising 0 c.in_ok-changes.changes.items c.in_ok-width.width × IsWidth c.in_ok-width.width
    × (painted White 0 c.in_ok-changes.changes.items c.in_ok-width.width ≡ stretches White c.args.runs.now)
made c =
    let runs : AreRunsOfRow c.args.runs.now = runs_judged c.width_of.result c.in_ok-width.width c.args.runs.now c.in_ok-width.ensures.ok_part c.width_of.ensures.judged in
    let width : c.in_ok-width.width ≡ sum c.args.runs.now = width_judged c.width_of.result c.in_ok-width.width c.args.runs.now c.in_ok-width.ensures.ok_part c.width_of.ensures.width in
    let row = row_of_runs c.args.runs.now c.in_ok-changes.changes.items c.in_ok-width.width runs width c.in_ok-changes.ensures in
    (runs, row.0, row.1, row.2)

pub invariant_of-result : goal.invariant_of-result
invariant_of-result c = ((made c).1, (made c).2)

pub returns-clause-ok : goal.returns-clause-ok
returns-clause-ok c = ((made c).0, (made c).3)

pub returns-clause-made : goal.returns-clause-made
returns-clause-made c = λ _. inl (ap Ok (made c).3)
