-- How many media a description has (RFC 8866, 5.14).
use Rattle.std.specs.Prelude.{ℕ, ◌+◌, Bool, false, if◌then◌else◌, List, [], ◌∷◌, codes, Option, None, Some}
use Rattle.std.specs.Str.{bytes_eq}
use Rattle.fax_sdp.specs.Texts.{cut_at}

abbrev pub is_m : Option (List ℕ × List ℕ) → Bool
is_m None = false
is_m (Some parts) = bytes_eq parts.0 (codes "m")

-- the line is an `m=` line
abbrev pub begins_medium : List ℕ → Bool
begins_medium line = is_m (cut_at 61 line)

-- how many lines are
abbrev pub media_lines : List (List ℕ) → ℕ
media_lines [] = 0
media_lines (line ∷ lines) = (if begins_medium line then 1 else 0) + media_lines lines
