-- One-dimensional lines under way: of the runs that came only their elements matter, and not how many of them have none.
use Rattle.std.specs.Prelude.{◌≡◌, ◌⊎◌, ℕ, ◌<◌, Bool, true, List, ◌++◌, Option, Some, None, length, sum}
use Rattle.fax_runcodes.specs.declared.Colour.{Colour}
use Rattle.fax_runcodes.specs.declared.Colour.TheVariants.{White}
use Rattle.fax_runcodes.specs.Rows.{Elements, stretches}
use Rattle.fax_mhcode.specs.Lines.{SpellsRuns}
use Rattle.fax_mhcode.specs.LineFaults.{colour_after}
use Rattle.fax_pagestore.specs.declared.reader.settled.Settled.{Settled}

-- Bits begin with runs of these elements, one at least, that don't reach the width; the next run has this colour, and this is
-- left after them.
pub record BeginsLine (width : ℕ)
    (bits : List Bool) (row : Elements) (colour : Colour) (rest : List Bool) : Type 0 where
  pub runs : List ℕ
  pub text : List Bool
  pub spelt : SpellsRuns White text runs
  pub bits_are : bits ≡ text ++ rest
  pub row_is : row ≡ stretches White runs
  pub colour_is : colour ≡ colour_after runs
  pub some : 0 < length runs
  pub within : sum runs < width

-- Bits and others begin with runs of the same elements, and after these they are the same.
pub record BeginSameLine (width : ℕ) (bits others : List Bool) : Type 0 where
  pub row : Elements
  pub colour : Colour
  pub rest : List Bool
  pub one : BeginsLine width bits row colour rest
  pub same : BeginsLine width others row colour rest

-- Of the bits after a separator of this tag these are kept: they, or in one dimension others that begin the same line.
abbrev pub AreKept :
    (width : ℕ) (tag : Option Bool) (settled : Option Settled) (bits kept : List Bool) → Type 0
AreKept width tag settled bits kept =
    (kept ≡ bits) ⊎ ((tag ≡ Some true) × (settled ≡ None) × BeginSameLine width bits kept)
