-- Texts: their lines, what stands before and after an octet, words and numbers (RFC 8866, 5 and 9).
use Rattle.std.specs.Prelude.{ℕ, ◌^◌, Bool, ◌&&◌, ◌==◌, nat_lt, if◌then◌else◌, List, [], ◌∷◌, length, map, drop, Option, None, Some, option_map}
use Rattle.std.specs.Char.{to_ascii_lowercase, is_ascii_digit, is_ascii_whitespace}
use Rattle.std.specs.List.{list_all, list_any, onto_first, prefix_len, slice_split}
use Rattle.std.specs.Str.{bytes_eq}
use Rattle.std.specs.Str.Parse.{digits_value}

-- an octet put before the first of two parts
abbrev pub onto_front : ℕ → List ℕ × List ℕ → List ℕ × List ℕ
onto_front octet parts = (octet ∷ parts.0, parts.1)

-- what stands before the first such octet, and what after it; none where there is no such octet
unfoldable pub cut_at : ℕ → List ℕ → Option (List ℕ × List ℕ)
cut_at mark [] = None
cut_at mark (octet ∷ text) =
    if octet == mark then Some ([], text) else option_map (onto_front octet) (cut_at mark text)

-- a line without the carriage return at its end
unfoldable pub without_return : List ℕ → List ℕ
without_return [] = []
without_return (octet ∷ []) = if octet == 13 then [] else octet ∷ []
without_return (octet ∷ next ∷ line) = octet ∷ without_return (next ∷ line)

-- the pieces of a text, each up to a line feed, or to the end of the text where that is not empty
unfoldable pub pieces_of : List ℕ → List (List ℕ)
pieces_of [] = []
pieces_of (octet ∷ text) =
    if octet == 10 then [] ∷ pieces_of text else onto_first octet (pieces_of text)

-- the lines of a text: each ends with CR LF, or with LF alone; the last may lack that
unfoldable pub lines_of : List ℕ → List (List ℕ)
lines_of text = map without_return (pieces_of text)

-- two words are one, but for the case of their letters
unfoldable pub is_word : List ℕ → List ℕ → Bool
is_word text word = bytes_eq (map to_ascii_lowercase text) (map to_ascii_lowercase word)

-- the number that digits write, where it is below 2 ^ 32
unfoldable pub number : List ℕ → Option ℕ
number text = if list_all is_ascii_digit text && (nat_lt 0 (length text)
    && nat_lt (digits_value 10 text) (2 ^ 32)) then Some (digits_value 10 text) else None

-- a text without the white space at its start
unfoldable pub without_space : List ℕ → List ℕ
without_space text = drop (prefix_len is_ascii_whitespace text) text

-- the words of a text, with one space between
abbrev pub words_of : List ℕ → List (List ℕ)
words_of text = slice_split (λ octet. octet == 32) text

-- some word of the text is this one
unfoldable pub has_word : List ℕ → List ℕ → Bool
has_word text word = list_any (λ each. is_word each word) (words_of text)
