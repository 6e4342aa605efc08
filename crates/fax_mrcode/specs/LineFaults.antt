-- Where no two-dimensional line can be read, and why. A row stands for what was read of one: of its
-- elements only those left of a0 and the colour at a0 matter.
use Rattle.std.specs.Prelude.{◌≡◌, ℕ, ◌+◌, ◌<◌, ◌≤◌, ◌⊎◌, Bool, List, ◌++◌, length}
use Rattle.fax_runcodes.specs.declared.Colour.{Colour}
use Rattle.fax_runcodes.specs.RunFaults.{FailsRun, ReadsRun}
use Rattle.fax_runcodes.specs.Rows.{Elements, other, colour_before}
use Rattle.fax_mhcode.specs.declared.fault.LineFault.{LineFault}
use Rattle.fax_mhcode.specs.declared.fault.LineFault.TheVariants.{Run, PastWidth, NoMode, BadPlace, NoMemory}
use Rattle.fax_mrcode.specs.declared.mode.Mode.{Mode}
use Rattle.fax_mrcode.specs.declared.mode.Mode.TheVariants.{Pass, Horizontal, Vertical}
use Rattle.fax_mrcode.specs.Modes.{mode_word, IsAt}
use Rattle.fax_mrcode.specs.Places.{b1, b2, run_start}
use Rattle.fax_mrcode.specs.Lines.{Steps}

-- a run of a horizontal step, from a place on, which may be empty only where this holds
abbrev pub StopsAtRun : (width : ℕ)
    → Colour → ℕ → (may_be_empty : Type 0) → List Bool → LineFault → Type 0
StopsAtRun width colour start may_be_empty bits (Run fault) = FailsRun colour bits fault
StopsAtRun width colour start may_be_empty bits PastWidth =
    (run : ℕ) × (rest : List Bool) × ReadsRun colour bits run rest × (width < start + run)
StopsAtRun width colour start may_be_empty bits BadPlace =
    (rest : List Bool) × ReadsRun colour bits 0 rest × (may_be_empty → ⊥)
StopsAtRun width colour start may_be_empty bits NoMode = ⊥
StopsAtRun width colour start may_be_empty bits NoMemory = ⊥

module _ (reference row : Elements) where
  -- why no step is taken from a0 (`from` is a0 + 1), after the word of this mode
  abbrev pub StopsIn : Mode → ℕ → List Bool → LineFault → Type 0
  -- pass beyond the last changing element of the reference
  StopsIn Pass from bits fault = (fault ≡ BadPlace) × (b2 reference row from ≡ length row)
  -- a1 not right of a0, or past the width
  StopsIn (Vertical offset) from bits fault = (fault ≡ BadPlace)
      × ((a1 : ℕ) → IsAt offset a1 (b1 reference row from) → (a1 < from) ⊎ (length row < a1))
  -- the first run, empty right of a0 = -1 alone; or the second run, empty at the width alone
  StopsIn Horizontal from bits fault = let colour = colour_before row from
      in StopsAtRun (length row) colour (run_start from) (from ≡ 0) bits fault
      ⊎ ((run : ℕ) × (rest : List Bool) × ReadsRun colour bits run rest × ((0 < run) ⊎ (from ≡ 0))
      × (run_start from + run ≤ length row) × StopsAtRun (length row) (other colour) (run_start from
      + run) (run_start from + run ≡ length row) rest fault)

  -- why no step is taken from a0, where these bits are left
  abbrev pub Stops : ℕ → List Bool → LineFault → Type 0
  Stops from bits fault =
      ((fault ≡ NoMode) × ((mode : Mode) (rest : List Bool) → bits ≡ mode_word mode ++ rest → ⊥))
      ⊎ ((mode : Mode)
      × (rest : List Bool) × (bits ≡ mode_word mode ++ rest) × StopsIn mode from rest fault)

-- Reading a line against this reference meets this fault: after steps that don't reach the width no
-- further step can be taken.
pub record FailsLine (reference : Elements) (bits : List Bool) (fault : LineFault) : Type 0 where
  pub row : Elements
  pub modes : List Mode
  pub from : ℕ
  pub text : List Bool
  pub rest : List Bool
  pub same_width : length row ≡ length reference
  pub steps : Steps reference row 0 modes text from
  pub bits_are : bits ≡ text ++ rest
  pub within : from ≤ length row
  pub stops : Stops reference row from rest fault
