-- Texts that are cut, and numbers in them.
use Rattle.std.specs.Prelude.{ℕ, ◌^◌, ◌&&◌, ◌==◌, nat_lt, if◌then◌else◌, List, [], ◌∷◌, length, Option, None, Some, option_map}
use Rattle.std.specs.Char.{is_ascii_digit}
use Rattle.std.specs.List.{list_all}
use Rattle.std.specs.Str.Parse.{digits_value}

-- an octet put before the first of two parts
abbrev pub onto_front : ℕ → List ℕ × List ℕ → List ℕ × List ℕ
onto_front octet parts = (octet ∷ parts.0, parts.1)

-- what stands before the first such octet, and what after it; none where there is no such octet
unfoldable pub cut_at : ℕ → List ℕ → Option (List ℕ × List ℕ)
cut_at mark [] = None
cut_at mark (octet ∷ text) =
    if octet == mark then Some ([], text) else option_map (onto_front octet) (cut_at mark text)

-- the number that digits write, where it is below 2 ^ 8
unfoldable pub number : List ℕ → Option ℕ
number text = if list_all is_ascii_digit text && (nat_lt 0 (length text)
    && nat_lt (digits_value 10 text) (2 ^ 8)) then Some (digits_value 10 text) else None
