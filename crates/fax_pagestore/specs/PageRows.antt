-- Rows of a page (ITU-T T.4, 2 and 3).
use Rattle.std.specs.Prelude.{◌≡◌, ℕ, ◌<◌, ◌≤◌, List, All, length}
use Rattle.fax_runcodes.specs.Rows.{Elements}

-- the most rows of a page (this project's profile)
abbrev pub most_rows : ℕ
most_rows = 65535

-- rows that make a page of a width
pub record AreRows (width : ℕ) (rows : List Elements) : Type 0 where
  pub some : 0 < length rows
  pub few : length rows ≤ most_rows
  pub each : All (λ row. length row ≡ width) rows
