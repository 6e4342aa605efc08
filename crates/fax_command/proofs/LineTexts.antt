-- The line of a row, number by number, and hex text, part by part.
use Rattle.std.proofs.Common.{◌≡◌, ℕ, ◌+◌, ◌-◌, ◌/◌, ◌%◌, ◌<◌, ◌≤◌, List, [], ◌∷◌, ◌++◌, length, get_or, slice_index, drop, decimal, refl, sym, ◌∙◌, ap, append_assoc}
use Rattle.hex.specs.Hex.{encode_lower, encode_with, lower_digits}
use Rattle.fax_runcodes.proofs.RunsOfRow.{runs_between, runs_between-drop_more, runs_between-drop_all}
use Rattle.fax_command.specs.RowLines.{line_of}

-- a number before others
line_of-cons : (n from : ℕ) (places : List ℕ) (end : ℕ) → line_of (n ∷ runs_between from places end) ≡ decimal n ++ (32 ∷ line_of (runs_between from places end))
unfolding runs_between
line_of-cons n from [] end = refl
line_of-cons n from (p ∷ places) end = refl

-- one more number of the line of a row, and a space after it
pub line_goes_on : (line front places : List ℕ) (from i end : ℕ) → i < length places → line ≡ front ++ line_of (runs_between from (drop i places) end)
    → line ≡ (front ++ (decimal (get_or places i 0 - from) ++ 32 ∷ [])) ++ line_of (runs_between (get_or places i 0) (drop (i + 1) places) end)
line_goes_on line front places from i end within so_far =
    let run : ℕ = get_or places i 0 - from in
    let rest : List ℕ = line_of (runs_between (get_or places i 0) (drop (i + 1) places) end) in
    so_far
    ∙ ap (λ runs. front ++ line_of runs) (runs_between-drop_more from places i end within)
    ∙ ap (λ text. front ++ text) (line_of-cons run (get_or places i 0) (drop (i + 1) places) end ∙ sym (append_assoc (decimal run) (32 ∷ []) rest))
    ∙ sym (append_assoc front (decimal run ++ 32 ∷ []) rest)

-- the last number, and a line feed after it
pub line_ends : (line front places : List ℕ) (from i end : ℕ) → length places ≤ i → line ≡ front ++ line_of (runs_between from (drop i places) end)
    → line ++ 10 ∷ [] ≡ front ++ (decimal (end - from) ++ 10 ∷ [])
line_ends line front places from i end past so_far =
    ap (λ text. text ++ 10 ∷ []) (so_far ∙ ap (λ runs. front ++ line_of runs) (runs_between-drop_all from places i end past))
    ∙ append_assoc front (decimal (end - from)) (10 ∷ [])

-- the hex text of octets after others
pub encode_lower-append : (xs ys : List ℕ) → encode_lower (xs ++ ys) ≡ encode_lower xs ++ encode_lower ys
unfolding encode_with
encode_lower-append [] ys = refl
encode_lower-append (x ∷ xs) ys = ap (λ (text : List ℕ). slice_index lower_digits (x / 16) ∷ slice_index lower_digits (x % 16) ∷ text) (encode_lower-append xs ys)
