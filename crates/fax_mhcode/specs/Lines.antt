-- One-dimensional lines (ITU-T T.4, 4.1).
use Rattle.std.specs.Prelude.{◌≡◌, ℕ, ◌<◌, Bool, List, [], ◌∷◌, ◌++◌, sum, length, take}
use Rattle.fax_runcodes.specs.declared.Colour.{Colour}
use Rattle.fax_runcodes.specs.declared.Colour.TheVariants.{White}
use Rattle.fax_runcodes.specs.Spelling.{SpellsRun, written_run}
use Rattle.fax_runcodes.specs.Rows.{Elements, AreRuns, other, stretches}

-- bits spell runs of these lengths one after another, of one colour and the other in turn
abbrev pub SpellsRuns : Colour → List Bool → List ℕ → Type 0
SpellsRuns colour text [] = text ≡ []
SpellsRuns colour text (run ∷ runs) = (first rest : List Bool) × (text ≡ first ++ rest)
    × SpellsRun colour first run × SpellsRuns (other colour) rest runs

-- Bits spell a row in one dimension: runs of alternating colour, white first, that reach the width
-- with the last run and not before. A run may be empty.
pub record SpellsLine (width : ℕ) (text : List Bool) (row : Elements) : Type 0 where
  pub runs : List ℕ
  pub spelt : SpellsRuns White text runs
  pub whole : sum runs ≡ width
  pub not_before : (k : ℕ) → k < length runs → sum (take k runs) < width
  pub row_is : row ≡ stretches White runs

-- the bits in which runs are written, of one colour and the other in turn
abbrev pub written_runs : Colour → List ℕ → List Bool
written_runs colour [] = []
written_runs colour (run ∷ runs) = written_run colour run ++ written_runs (other colour) runs

-- the bits in which a row is written in one dimension
pub record WritesLine (row : Elements) (text : List Bool) : Type 0 where
  pub runs : List ℕ
  pub are_runs : AreRuns runs row
  pub text_is : text ≡ written_runs White runs
