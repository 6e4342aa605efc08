-- Rows as lines of text (this project's profile).
use Rattle.std.specs.Prelude.{◌≡◌, ℕ, ◌==◌, if◌then◌else◌, List, [], ◌∷◌, ◌++◌, length, map, flat_map, decimal}
use Rattle.std.specs.List.{join_with_byte, onto_first}
use Rattle.fax_runcodes.specs.Rows.{Elements, AreRuns}

-- numbers in decimal, with one space between
abbrev pub line_of : List ℕ → List ℕ
line_of numbers = join_with_byte 32 (map decimal numbers)

-- A line tells a row: it is the lengths of the row's runs, white first.
pub record TellsRow (line : List ℕ) (row : Elements) : Type 0 where
  pub runs : List ℕ
  pub are_runs : AreRuns runs row
  pub line_is : line ≡ line_of runs

-- lines tell these rows, one by one
abbrev pub TellRows : List (List ℕ) → List Elements → Type 0
TellRows [] [] = Unit {0}
TellRows (line ∷ lines) (row ∷ rows) = TellsRow line row × TellRows lines rows
TellRows [] (row ∷ rows) = ⊥
TellRows (line ∷ lines) [] = ⊥

-- a line tells some row of the width
abbrev pub IsRowLine : ℕ → List ℕ → Type 0
IsRowLine width line = (row : Elements) × (length row ≡ width) × TellsRow line row

-- lines, with a line feed after each
abbrev pub text_of_lines : List (List ℕ) → List ℕ
text_of_lines lines = flat_map (λ line. line ++ 10 ∷ []) lines

-- the lines of a text: each ends at a line feed, or at the end of the text where it is not empty
unfoldable pub lines_of : List ℕ → List (List ℕ)
lines_of [] = []
lines_of (octet ∷ text) =
    if octet == 10 then [] ∷ lines_of text else onto_first octet (lines_of text)
