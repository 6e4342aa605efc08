-- JSON in ASCII: text that a terminal shows, and does nothing else with.
use Rattle.std.specs.Prelude.{ℕ, ◌/◌, ◌%◌, ◌≤◌, ◌&&◌, nat_le, List, [], ◌∷◌, flat_map, if◌then◌else◌}
use Rattle.std.specs.Char.{digit_char}
use Rattle.std.specs.Char.Escape.{encode_utf16}
use Rattle.std.specs.Str.{chars}

-- an octet is a character of ASCII that a terminal shows: one from the space to `~`
abbrev pub IsVisible : ℕ → Type 0
IsVisible octet = (32 ≤ octet) × (octet ≤ 126)

-- a unit of UTF-16, escaped (RFC 8259, section 7)
abbrev pub unit_shown : ℕ → List ℕ
unit_shown unit = 92 ∷ 117 ∷ digit_char (unit / 4096 % 16)
    ∷ digit_char (unit / 256 % 16) ∷ digit_char (unit / 16 % 16) ∷ digit_char (unit % 16) ∷ []

-- a character of a text of JSON: as it is where a terminal shows it, and else escaped
abbrev pub char_shown : ℕ → List ℕ
char_shown c = if nat_le 32 c && nat_le c 126 then c ∷ [] else flat_map unit_shown (encode_utf16 c)

-- THE SAME JSON IN ASCII.
unfoldable pub shown : List ℕ → List ℕ
shown text = flat_map char_shown (chars text)
