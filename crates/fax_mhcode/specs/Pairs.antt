-- A one-dimensional line that is being read. Not part of any public clause.
use Rattle.std.specs.Prelude.{◌≡◌, ℕ, ◌+◌, ◌<◌, ◌≤◌, Bool, List, ◌++◌, length, sum, take}
use Rattle.fax_bits.specs.Reading.{Place, Passes}
use Rattle.fax_runcodes.specs.declared.Colour.{Colour}
use Rattle.fax_runcodes.specs.declared.Colour.TheVariants.{White, Black}
use Rattle.fax_runcodes.specs.Rows.{Elements, stretches}
use Rattle.fax_runcodes.specs.Spelling.{SpellsRun}
use Rattle.fax_mhcode.specs.Lines.{SpellsRuns}
use Rattle.fax_mhcode.specs.LineFaults.{colour_after}

-- from old to new runs were passed that make the elements so far, and the next has this colour
pub record RunsSoFar (width : ℕ) (old new : Place) (row : Elements) (colour : Colour) : Type 0 where
  pub runs : List ℕ
  pub text : List Bool
  pub spelt : SpellsRuns White text runs
  pub passes : Passes old new text
  pub row_is : row ≡ stretches White runs
  pub colour_is : colour ≡ colour_after runs
  pub not_before : (k : ℕ) → k < length runs → sum (take k runs) < width
  pub within : sum runs ≤ width
  pub sum_is : length row ≡ sum runs

-- Runs of any line that were read up to here, of which these elements were made and so many are left,
-- go on up to there, with these elements and so many left; and a white run is next, as before.
abbrev pub GoesOn : Place → Elements → ℕ → Place → Elements → ℕ → Type 0
GoesOn here old before there new after = (width : ℕ) (start : Place)
    → RunsSoFar width start here old White
    → length old + before ≡ width → RunsSoFar width start there new White

-- bits begin with the spelling of a white run and of a black one, which have so many bits
pub record SpellsPair (bits : List Bool) (white black size : ℕ) : Type 0 where
  pub white_text : List Bool
  pub black_text : List Bool
  pub rest : List Bool
  pub white_spelt : SpellsRun White white_text white
  pub black_spelt : SpellsRun Black black_text black
  pub bits_are : bits ≡ (white_text ++ black_text) ++ rest
  pub size_is : size ≡ length white_text + length black_text
