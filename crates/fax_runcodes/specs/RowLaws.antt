-- What holds of rows.
use Rattle.std.specs.Prelude.{◌≡◌, ℕ, ◌<◌, List, length}
use Rattle.fax_runcodes.specs.Rows.{Elements, AreRuns}

-- a row has one list of runs
abbrev pub RunsOfRowsAreUnique : Type 0
RunsOfRowsAreUnique = (a b : List ℕ) (row : Elements)
    → 0 < length row → AreRuns a row → AreRuns b row → a ≡ b
