-- Texts: cut at a mark, in lines and in parts (RFC 3261, 7.3.1 and 25.1); words and numbers.
use Rattle.std.specs.Prelude.{ℕ, suc, ◌-◌, ◌^◌, Bool, true, false, not, ◌&&◌, ◌||◌, ◌==◌, nat_eq, nat_lt, if◌then◌else◌, List, [], ◌∷◌, length, map, take, drop, codes, Option, None, Some, option_map}
use Rattle.std.specs.Char.{is_ascii_digit, is_ascii_whitespace, to_ascii_lowercase}
use Rattle.std.specs.List.{list_all, onto_first, prefix_len, starts_with, suffix_len}
use Rattle.std.specs.Str.{bytes_eq}
use Rattle.std.specs.Str.Parse.{digits_value}
use Rattle.fax_sip.specs.declared.mark.Mark.{Mark}
use Rattle.fax_sip.specs.declared.mark.Mark.TheVariants as marks
use Rattle.fax_sip.specs.declared.mark.Quoting.{Quoting}
use Rattle.fax_sip.specs.declared.mark.Quoting.TheVariants.{Outside, Quoted, Escaped, Angled}

-- ---- where an octet stands

-- where the next octet stands: a quotation mark begins and ends a quoted string, in which a backslash takes the next octet's meaning away, and brackets stand round an address
abbrev pub after : Quoting → ℕ → Quoting
after Outside octet = if octet == 34 then Quoted else (if octet == 60 then Angled else Outside)
after Quoted octet = if octet == 92 then Escaped else (if octet == 34 then Outside else Quoted)
after Escaped octet = Quoted
after Angled octet = if octet == 62 then Outside else Angled

abbrev pub is_outside : Quoting → Bool
is_outside Outside = true
is_outside Quoted = false
is_outside Escaped = false
is_outside Angled = false

-- ---- marks

-- the first octet passes the test
abbrev pub first_is : (ℕ → Bool) → List ℕ → Bool
first_is test [] = false
first_is test (octet ∷ text) = test octet

-- a text goes on with the line before it: it begins with a space or a tab
abbrev pub goes_on : List ℕ → Bool
goes_on text = first_is (λ octet. octet == 32 || octet == 9) text

-- a header line ends here: CR LF, which no space or tab follows
abbrev pub ends_line : List ℕ → Bool
ends_line text = starts_with nat_eq text (codes "\r\n") && not (goes_on (drop 2 text))

-- a mark stands at the front of a text whose first octet stands so
abbrev pub stands : Mark → Quoting → List ℕ → Bool
stands (marks.Octet octet) quoting text = first_is (λ first. first == octet) text
stands (marks.Outside octet) quoting text =
    is_outside quoting && first_is (λ first. first == octet) text
stands marks.Blank quoting text = first_is is_ascii_whitespace text
stands marks.LineEnd quoting text = ends_line text
stands marks.HeadEnd quoting text = starts_with nat_eq text (codes "\r\n\r\n")

-- how many octets a mark has
abbrev pub width : Mark → ℕ
width (marks.Octet octet) = 1
width (marks.Outside octet) = 1
width marks.Blank = 1
width marks.LineEnd = 2
width marks.HeadEnd = 4

-- the place of the first such mark in a text
unfoldable pub place_of : Mark → Quoting → List ℕ → Option ℕ
place_of mark quoting [] = None
place_of mark quoting (octet ∷ text) = if stands mark quoting (octet ∷ text)
    then Some 0 else option_map suc (place_of mark (after quoting octet) text)

-- what stands before a place, and what after so many octets from there
abbrev pub parted : ℕ → List ℕ → ℕ → List ℕ × List ℕ
parted count text place = (take place text, drop count (drop place text))

-- what stands before the first such mark, and what after it; none where there is no such mark
abbrev pub cut : Mark → List ℕ → Option (List ℕ × List ℕ)
cut mark text = option_map (parted (width mark) text) (place_of mark Outside text)

-- ---- lines and parts

-- The lines of a text, each up to its end. What begins with a space or a tab goes on with the line before it; the last may lack its end.
unfoldable pub lines_of : List ℕ → List (List ℕ)
lines_of [] = []
lines_of (a ∷ []) = (a ∷ []) ∷ []
lines_of (a ∷ b ∷ text) =
    if ends_line (a ∷ b ∷ text) then [] ∷ lines_of text else onto_first a (lines_of (b ∷ text))

-- the parts of a text between these octets, outside of quoted strings and of angle brackets; the first octet stands so
unfoldable pub parts_from : ℕ → Quoting → List ℕ → List (List ℕ)
parts_from separator quoting [] = [] ∷ []
parts_from separator quoting (octet ∷ text) =
    if stands (marks.Outside separator) quoting (octet ∷ text)
    then [] ∷ parts_from separator Outside text
    else onto_first octet (parts_from separator (after quoting octet) text)

abbrev pub parts_of : ℕ → List ℕ → List (List ℕ)
parts_of separator text = parts_from separator Outside text

-- the parts of a text that may be there
abbrev pub parts_left : ℕ → Option (List ℕ) → List (List ℕ)
parts_left separator None = []
parts_left separator (Some text) = parts_of separator text

-- ---- words and numbers

-- a text without the white space at its start
abbrev pub from_word : List ℕ → List ℕ
from_word text = drop (prefix_len is_ascii_whitespace text) text

-- a text without the white space at its end
abbrev pub to_word : List ℕ → List ℕ
to_word text = take (length text - suffix_len is_ascii_whitespace text) text

-- a text without the white space at both ends
unfoldable pub trimmed : List ℕ → List ℕ
trimmed text = to_word (from_word text)

-- two words are one, but for the case of their letters
unfoldable pub is_word : List ℕ → List ℕ → Bool
is_word text word = bytes_eq (map to_ascii_lowercase text) (map to_ascii_lowercase word)

-- the number that digits write, where it is below 2 ^ 32
unfoldable pub number : List ℕ → Option ℕ
number text = if list_all is_ascii_digit text && (nat_lt 0 (length text)
    && nat_lt (digits_value 10 text) (2 ^ 32)) then Some (digits_value 10 text) else None
