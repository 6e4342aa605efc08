-- White space, comments and numbers in the head of a picture (netpbm's pbm(5), and what its programs read).
use Rattle.std.specs.Prelude.{ℕ, ◌+◌, ◌-◌, ◌*◌, ◌==◌, Bool, true, false, not, ◌||◌, List, [], ◌∷◌, if◌then◌else◌}
use Rattle.std.specs.Char.{is_ascii_digit}

-- white space: a blank, a tabulator, a line feed, a carriage return
abbrev pub is_space : ℕ → Bool
is_space c = c == 32 || c == 9 || c == 10 || c == 13

abbrev pub ends_line : ℕ → Bool
ends_line c = c == 10 || c == 13

-- What stands after white space and comments. A comment goes from a '#' (35) to the end of its line; where told so, the text
-- begins inside one.
unfoldable pub after_blanks : Bool → List ℕ → List ℕ
after_blanks within [] = []
after_blanks true (c ∷ text) = after_blanks (not (ends_line c)) text
after_blanks false (c ∷ text) =
    if is_space c || c == 35 then after_blanks (c == 35) text else c ∷ text

-- the number that the digits at the front spell, after those of n
unfoldable pub number_after : ℕ → List ℕ → ℕ
number_after n [] = n
number_after n (c ∷ text) = if is_ascii_digit c then number_after (10 * n + (c - 48)) text else n

-- what stands after the digits at the front
unfoldable pub after_digits : List ℕ → List ℕ
after_digits [] = []
after_digits (c ∷ text) = if is_ascii_digit c then after_digits text else c ∷ text
