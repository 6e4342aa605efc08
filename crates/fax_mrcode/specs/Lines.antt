-- Two-dimensional lines, told of a finished row (ITU-T T.4, 4.2.1.3).
use Rattle.std.specs.Prelude.{◌≡◌, ℕ, ◌+◌, ◌-◌, ◌<◌, ◌≤◌, Bool, List, [], ◌∷◌, ◌++◌, length}
use Rattle.fax_runcodes.specs.Spelling.{SpellsRun}
use Rattle.fax_runcodes.specs.Rows.{Elements, other, colour_before}
use Rattle.fax_mrcode.specs.declared.mode.Mode.{Mode}
use Rattle.fax_mrcode.specs.declared.mode.Mode.TheVariants.{Pass, Horizontal, Vertical}
use Rattle.fax_mrcode.specs.Modes.{mode_word, IsAt}
use Rattle.fax_mrcode.specs.Places.{a1, a2, b1, b2, run_start}

module _ (reference row : Elements) where
  -- From a0 (`from` is a0 + 1) a step in this mode may be taken, with this text after the mode's
  -- word, and the next a0 is this place.
  abbrev pub Step : ℕ → Mode → List Bool → ℕ → Type 0
  Step from Pass text next =
      (b2 reference row from < a1 row from) × (text ≡ []) × (next ≡ b2 reference row from)
  Step from (Vertical offset) text next =
      IsAt offset (a1 row from) (b1 reference row from) × (text ≡ []) × (next ≡ a1 row from)
  Step from Horizontal text next = (first second : List Bool) × (text ≡ first ++ second)
      × SpellsRun (colour_before row from) first (a1 row from - run_start from)
      × SpellsRun (other (colour_before row from)) second (a2 row from - a1 row from)
      × (next ≡ a2 row from)

  -- from one a0 to another the bits are the words of steps in these modes
  abbrev pub Steps : ℕ → List Mode → List Bool → ℕ → Type 0
  Steps from [] text end = (text ≡ []) × (end ≡ from)
  Steps from (mode ∷ modes) text end = (from ≤ length row)
      × (step rest : List Bool) × (next : ℕ) × (text ≡ mode_word mode ++ step ++ rest)
      × Step from mode step next × Steps (next + 1) modes rest end

-- Bits spell a row against a reference row: the words of steps from a0 = -1 until a0 is the width.
pub record SpellsLine (reference : Elements) (text : List Bool) (row : Elements) : Type 0 where
  pub same_width : length row ≡ length reference
  pub modes : List Mode
  pub steps : Steps reference row 0 modes text (length row + 1)
