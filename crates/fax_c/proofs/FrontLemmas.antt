-- Runs that stand in front of others, and what is left after them.
use Rattle.std.proofs.Common.{◌≡◌, ℕ, ◌-◌, ◌<◌, List, length, take, drop, sum, All, refl, sym, ◌∙◌, arith, length-drop}
use Rattle.std.proofs.lemmas.List.{take_all}
use Rattle.fax_runcodes.specs.declared.Colour.TheVariants.{White}
use Rattle.fax_runcodes.specs.declared.Width.{Width}
use Rattle.fax_runcodes.specs.Rows.{Elements, AreRuns, stretches}
use Rattle.fax_runcodes.specs.Widths.{elements_of}
use Rattle.fax_runcodes.proofs.PaintingLemmas.{sum_of_runs}

-- what is left of a slice after a place
pub rest_is : (runs : List ℕ) (n : ℕ) → take (length runs - n) (drop n runs) ≡ drop n runs
rest_is runs n = take_all (length runs - n) (drop n runs) (omega (arith, length-drop n runs))

-- runs of which none but the first is empty, and which add to a width, are those of a row
pub row_of_front : (runs : List ℕ) (width : Width) → sum runs ≡ elements_of width → All (λ n. 0 < n) (drop 1 runs) → (row : Elements) × AreRuns runs row × (length row ≡ elements_of width)
row_of_front runs width adds filled =
    let are : AreRuns runs (stretches White runs) = record { row_is = refl; not_empty = filled } in
    (stretches White runs, are, sym (sum_of_runs runs (stretches White runs) are) ∙ adds)
