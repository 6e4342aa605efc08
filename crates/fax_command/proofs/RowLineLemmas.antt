-- Lines of a text, and lines of numbers.
use Rattle.std.proofs.Common.{◌≡◌, ◌≢◌, ℕ, zero, suc, ◌+◌, ◌<◌, ◌^◌, false, cond, List, [], ◌∷◌, length, take, drop, get_or, map, sum, refl, sym, ◌∙◌, ap, ap₂, subst, arith, eq-eqb}
use Rattle.std.proofs.Math.Dec.{eqb}
use Rattle.std.proofs.lemmas.Bool.{ne_eqb}
use Rattle.std.proofs.lemmas.List.Elements.{All-from_recursion}
use Rattle.std.proofs.lemmas.List.Splits.{slice_split_none, slice_split_at, join_with_byte-slice_split}
use Rattle.std.proofs.lemmas.List.Sums.{sum_by-cons}
use Rattle.std.proofs.lemmas.Fmt.{decimal_is_IsNumeral, decimal_injective}
use Rattle.std.specs.Char.{digit_value}
use Rattle.std.specs.Fmt.{decimal}
use Rattle.std.specs.List.{All, AllByRecursion, join_with_byte, onto_first, slice_split}
use Rattle.std.specs.Str.Parse.{AllDigits}
use Rattle.fax_command.specs.RowLines.{line_of, lines_of}

-- ---- lines of a text

-- a line feed ends the first line
pub lines_of_at : (text : List ℕ) (i : ℕ) → i < length text → get_or text i 0 ≡ 10
    → ((k : ℕ) → k < i → get_or text k 0 ≢ 10) → lines_of text ≡ take i text ∷ lines_of (drop (suc i) text)
unfolding lines_of
lines_of_at [] i within here before = absurd (omega arith)
lines_of_at (octet ∷ text) zero within here before =
    ap (λ b. cond b ([] ∷ lines_of text) (onto_first octet (lines_of text))) (eq-eqb octet 10 here)
lines_of_at (octet ∷ text) (suc i) within here before =
    ap (λ b. cond b ([] ∷ lines_of text) (onto_first octet (lines_of text))) (ne_eqb octet 10 (before 0 (omega arith)))
    ∙ ap (onto_first octet) (lines_of_at text i (omega arith) here (λ k h. before (suc k) (omega arith)))

-- a text with no line feed is one line
pub lines_of_whole : (text : List ℕ) → 0 < length text → ((k : ℕ) → k < length text → get_or text k 0 ≢ 10) → lines_of text ≡ text ∷ []
unfolding lines_of
lines_of_whole [] some none = absurd (omega arith)
lines_of_whole (octet ∷ []) some none =
    ap (λ b. cond b ([] ∷ []) ((octet ∷ []) ∷ [])) (ne_eqb octet 10 (none 0 (omega arith)))
lines_of_whole (octet ∷ next ∷ text) some none =
    ap (λ b. cond b ([] ∷ lines_of (next ∷ text)) (onto_first octet (lines_of (next ∷ text)))) (ne_eqb octet 10 (none 0 (omega arith)))
    ∙ ap (onto_first octet) (lines_of_whole (next ∷ text) (omega arith) (λ k h. none (suc k) (omega arith)))

-- ---- lines of numbers

-- numbers of 16 bits
abbrev pub AreShort : List ℕ → Type 0
AreShort numbers = AllByRecursion (λ n. n < 2 ^ 16) numbers

pub short_at_each : (numbers : List ℕ) → ((k : ℕ) → get_or numbers k 0 < 2 ^ 16) → AreShort numbers
short_at_each [] each = tt
short_at_each (n ∷ numbers) each = (each 0, short_at_each numbers (λ k. each (suc k)))

pub short_by_sum : (numbers : List ℕ) → sum numbers < 2 ^ 16 → AreShort numbers
short_by_sum [] few = tt
short_by_sum (n ∷ numbers) few =
    let all : sum (n ∷ numbers) ≡ n + sum numbers = sum_by-cons (λ x. x) n numbers in
    (omega (arith, all), short_by_sum numbers (omega (arith, all)))

-- decimal text has no space
no_space_of : (digits : List ℕ) → AllDigits 10 digits → AllByRecursion (λ c. eqb c 32 ≡ false) digits
no_space_of [] are = tt
no_space_of (c ∷ cs) are =
    (ne_eqb c 32 (λ e. let P : ℕ → Type 0 = λ n. digit_value n < 10 in let bad : 36 < 10 = subst P e are.0 in omega arith), no_space_of cs are.1)

no_space : (n : ℕ) → n < 2 ^ 16 → All (λ c. eqb c 32 ≡ false) (decimal n)
no_space n small =
    All-from_recursion _ (decimal n) (no_space_of (decimal n) (decimal_is_IsNumeral n (omega arith)).0.1)

-- a line of numbers falls into them
pub slice_split-line_of : (n : ℕ) (numbers : List ℕ) → AreShort (n ∷ numbers)
    → slice_split (λ c. eqb c 32) (line_of (n ∷ numbers)) ≡ map decimal (n ∷ numbers)
slice_split-line_of n [] short = slice_split_none _ (decimal n) (no_space n short.0)
slice_split-line_of n (m ∷ numbers) short =
    slice_split_at _ (decimal n) 32 (line_of (m ∷ numbers)) (no_space n short.0) refl
    ∙ ap (λ parts. decimal n ∷ parts) (slice_split-line_of m numbers short.1)

-- numbers of one text are the same
pub same_numbers : (ms ns : List ℕ) → AreShort ms → AreShort ns → map decimal ms ≡ map decimal ns → ms ≡ ns
same_numbers [] [] are same e = refl
same_numbers [] (n ∷ ns) are same e = cc
same_numbers (m ∷ ms) [] are same e = cc
same_numbers (m ∷ ms) (n ∷ ns) are same e =
    let heads : decimal m ≡ decimal n = cc in
    let tails : map decimal ms ≡ map decimal ns = cc in
    ap₂ (λ x xs. x ∷ xs) (decimal_injective m n (omega (arith, are.0)) (omega (arith, same.0)) heads) (same_numbers ms ns are.1 same.1 tails)

-- a line that falls into numbers is their line
pub line_of_parts : (line numbers : List ℕ) → map decimal numbers ≡ slice_split (λ c. eqb c 32) line → line ≡ line_of numbers
line_of_parts line numbers parts = sym (join_with_byte-slice_split 32 line) ∙ ap (join_with_byte 32) (sym parts)

-- a line of numbers with this sum falls into them
pub parts_of_line : (line numbers : List ℕ) → 0 < sum numbers → sum numbers < 2 ^ 16 → line ≡ line_of numbers
    → slice_split (λ c. eqb c 32) line ≡ map decimal numbers
parts_of_line line [] some few is = absurd (omega arith)
parts_of_line line (n ∷ numbers) some few is =
    ap (slice_split (λ c. eqb c 32)) is ∙ slice_split-line_of n numbers (short_by_sum (n ∷ numbers) few)

-- each of these texts is the number at its place
pub number_at : (numbers : List ℕ) (i : ℕ) (part : List ℕ) → AreShort numbers → i < length (map decimal numbers)
    → part ≡ get_or (map decimal numbers) i part → (n : ℕ) × (n < 2 ^ 16) × (part ≡ decimal n)
number_at [] i part short within is = absurd (omega arith)
number_at (n ∷ numbers) zero part short within is = (n, short.0, is)
number_at (n ∷ numbers) (suc i) part short within is = number_at numbers i part short.1 (omega arith) is
