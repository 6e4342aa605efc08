-- Laws of two-dimensional lines as they are written.
use Rattle.std.proofs.Common.{ℕ, ◌+◌, ◌-◌, ◌≤◌, Bool, List, [], ◌∷◌, length, sym, arith}
use Rattle.fax_runcodes.specs.Rows.{Elements, IsWidth, other, colour_before}
use Rattle.fax_runcodes.specs.Spelling.{written_run}
use Rattle.fax_runcodes.proofs.WriteLemmas.{written_run_spells}
use Rattle.fax_mhcode.proofs.WriteLemmas.{most_elements}
use Rattle.fax_mrcode.specs.declared.mode.Mode.{Mode}
use Rattle.fax_mrcode.specs.declared.mode.Mode.TheVariants.{Pass, Horizontal, Vertical}
use Rattle.fax_mrcode.specs.Places.{a1, a2, run_start}
use Rattle.fax_mrcode.specs.Lines.{Step, Steps, SpellsLine}
use Rattle.fax_mrcode.specs.Written.{WritesStep, WritesSteps, WritesLine}
use Rattle.fax_mrcode.proofs.PlaceLemmas.{IsA1, IsA2, a1_is, a2_is}

-- the step that is written may be taken
written_step_is_spelt : (reference row : Elements) (from : ℕ) (mode : Mode) (text : List Bool) (next : ℕ) → length row ≤ 2432 → from ≤ length row
    → WritesStep reference row from mode text next → Step reference row from mode text next
written_step_is_spelt reference row from Pass text next few inside w = w
written_step_is_spelt reference row from (Vertical offset) text next few inside w = (w.1, w.2, w.3)
written_step_is_spelt reference row from Horizontal text next few inside w =
    let first : IsA1 row from = a1_is row from inside in
    let second : IsA2 row from = a2_is row from inside in (
      written_run (colour_before row from) (a1 row from - run_start from),
      written_run (other (colour_before row from)) (a2 row from - a1 row from),
      w.2,
      written_run_spells (colour_before row from) (a1 row from - run_start from) (omega (arith, first.high)),
      written_run_spells (other (colour_before row from)) (a2 row from - a1 row from) (omega (arith, second.high)),
      w.3,
    )

written_steps_are_spelt : (reference row : Elements) (from : ℕ) (modes : List Mode) (text : List Bool) → length row ≤ 2432
    → WritesSteps reference row from modes text → Steps reference row from modes text (length row + 1)
written_steps_are_spelt reference row from [] text few (e, end) = (e, sym end)
written_steps_are_spelt reference row from (mode ∷ modes) text few (inside, step, rest, next, e, w, more) =
    (inside, step, rest, next, e, written_step_is_spelt reference row from mode step next few inside w, written_steps_are_spelt reference row (next + 1) modes rest few more)

-- The bits in which a row is written spell it.
pub written_line_is_spelt : (reference row : Elements) (text : List Bool) → IsWidth (length row) → WritesLine reference row text → SpellsLine reference text row
written_line_is_spelt reference row text width w = record {
  same_width = w.same_width;
  modes = w.modes;
  steps = written_steps_are_spelt reference row 0 w.modes text (most_elements (length row) width) w.steps;
}
