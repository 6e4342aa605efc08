use Rattle.std.proofs.Common.{◌≡◌, ℕ, List, ◌≤◌, take, sum, length, sym, ◌∙◌, arith, refl, inl, inr}
use Rattle.fax_runcodes.specs.declared.Colour.TheVariants.{White}
use Rattle.fax_runcodes.specs.Rows.{AreRuns, AreRunsOfRow, IsWidth}
use Rattle.fax_runcodes.specs.Painted.{painted, changes_between, AreRising}
use Rattle.fax_runcodes.proofs.PaintedLemmas.{length-painted_all}
use Rattle.fax_runcodes.proofs.PaintingLemmas.{no_row_in_front, painted_none}
use Rattle.fax_runcodes.proofs.RunsOfRow.{row_of_runs}
use Rattle.fax_runcodes.proofs.row.RowBuilder.paint_row.Goals as goal

pub push_ends-requires-clause-empty : goal.push_ends-requires-clause-empty
push_ends-requires-clause-empty c = (painted_none c.self.inside.changes.items c.self.inside.len c.self.invariant.0 (c.self.view_is ∙ c.clear.ensures)).0

pub invariant_of-self-in-None : goal.invariant_of-self-in-None
unfolding AreRising
invariant_of-self-in-None c =
    let none : c.self.inside.len ≡ 0 = (painted_none c.self.inside.changes.items c.self.inside.len c.self.invariant.0 (c.self.view_is ∙ c.clear.ensures)).1 in
    rw c.clear-in-None.ensures.items (omega arith, omega arith, omega (arith, c.self.invariant.2, c.push_ends.ensures.room, c.clear-in-None.ensures.capacity))

pub returns-in-None-clause-none : goal.returns-in-None-clause-none
returns-in-None-clause-none c = λ row first more wide are is.
    no_row_in_front c.elements-elements.result c.args.runs.now c.in-None.ensures.none row first more (wide ∙ sym c.elements-elements.ensures) are is

pub returns-in-None-clause-empty : goal.returns-in-None-clause-empty
unfolding painted
returns-in-None-clause-empty c =
    let none : c.self.inside.len ≡ 0 = (painted_none c.self.inside.changes.items c.self.inside.len c.self.invariant.0 (c.self.view_is ∙ c.clear.ensures)).1 in
    λ _. rw (c.clear-in-None.ensures.items, none) refl

few : (n : ℕ) → IsWidth n → n ≤ 2432
few n (inl w) = omega arith
few n (inr (inl w)) = omega arith
few n (inr (inr w)) = omega arith

made : (runs changes : List ℕ) (n width : ℕ) → AreRunsOfRow (take n runs) × (sum (take n runs) ≡ width) × (n ≤ length runs) → changes ≡ changes_between 0 (take n runs)
    → AreRising 0 changes width × (width ≤ 2432) × AreRuns (take n runs) (painted White 0 changes width)
made runs changes n width are ends =
    let row = row_of_runs (take n runs) changes width are.0 (sym are.1) ends in
    (row.0, few width row.1, record { row_is = row.2; not_empty = are.0.not_empty })

pub invariant_of-self : goal.invariant_of-self
invariant_of-self c =
    let row = made c.args.runs.now c.push_ends.new.ends.items c.in-Some.count c.elements-elements.result c.in-Some.ensures.runs c.in-Some.ensures.ends in
    (row.0, row.1, omega (arith, c.self.invariant.2, c.push_ends.ensures.room))

pub returns-in-Some-clause-runs : goal.returns-in-Some-clause-runs
returns-in-Some-clause-runs c =
    let row = made c.args.runs.now c.push_ends.new.ends.items c.in-Some.count c.elements-elements.result c.in-Some.ensures.runs c.in-Some.ensures.ends in
    (row.2, c.in-Some.ensures.runs.2)

pub returns-in-Some-clause-width : goal.returns-in-Some-clause-width
returns-in-Some-clause-width c =
    let row = made c.args.runs.now c.push_ends.new.ends.items c.in-Some.count c.elements-elements.result c.in-Some.ensures.runs c.in-Some.ensures.ends in
    length-painted_all c.push_ends.new.ends.items c.elements-elements.result row.0 ∙ c.elements-elements.ensures
