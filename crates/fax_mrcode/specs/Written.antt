-- The two-dimensional line that is written: pass wherever it may be taken, else vertical wherever it
-- may be taken, else horizontal, and each run in its one written form (ITU-T T.4, 4.2.1.3.3).
use Rattle.std.specs.Prelude.{◌≡◌, ℕ, ◌+◌, ◌-◌, ◌<◌, ◌≤◌, Bool, List, [], ◌∷◌, ◌++◌, length}
use Rattle.fax_runcodes.specs.Spelling.{written_run}
use Rattle.fax_runcodes.specs.Rows.{Elements, other, colour_before}
use Rattle.fax_mrcode.specs.declared.mode.Mode.{Mode}
use Rattle.fax_mrcode.specs.declared.mode.Mode.TheVariants.{Pass, Horizontal, Vertical}
use Rattle.fax_mrcode.specs.declared.mode.Offset.{Offset}
use Rattle.fax_mrcode.specs.Modes.{mode_word, IsAt}
use Rattle.fax_mrcode.specs.Places.{a1, a2, b1, b2, run_start}

module _ (reference row : Elements) where
  -- the one step that is written from a0: its mode, its text after the mode's word, the next a0
  abbrev pub WritesStep : ℕ → Mode → List Bool → ℕ → Type 0
  WritesStep from Pass text next =
      (b2 reference row from < a1 row from) × (text ≡ []) × (next ≡ b2 reference row from)
  WritesStep from (Vertical offset) text next = (a1 row from ≤ b2 reference row from)
      × IsAt offset (a1 row from) (b1 reference row from) × (text ≡ []) × (next ≡ a1 row from)
  WritesStep from Horizontal text next = (a1 row from ≤ b2 reference row from)
      × ((offset : Offset) → IsAt offset (a1 row from) (b1 reference row from) → ⊥)
      × (text ≡ written_run (colour_before row from) (a1 row from - run_start from)
      ++ written_run (other (colour_before row from)) (a2 row from - a1 row from))
      × (next ≡ a2 row from)

  -- the bits from one a0 to the width, in these modes
  abbrev pub WritesSteps : ℕ → List Mode → List Bool → Type 0
  WritesSteps from [] text = (text ≡ []) × (from ≡ length row + 1)
  WritesSteps from (mode ∷ modes) text = (from ≤ length row)
      × (step rest : List Bool) × (next : ℕ) × (text ≡ mode_word mode ++ step ++ rest)
      × WritesStep from mode step next × WritesSteps (next + 1) modes rest

-- the bits in which a row is written against a reference row
pub record WritesLine (reference row : Elements) (text : List Bool) : Type 0 where
  pub same_width : length row ≡ length reference
  pub modes : List Mode
  pub steps : WritesSteps reference row 0 modes text
