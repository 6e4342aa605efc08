-- Texts that are cut, and numbers in them.
use Rattle.std.proofs.Common.{◌≡◌, ◌≢◌, ℕ, suc, ◌<◌, ◌^◌, Bool, true, false, true≢false, ◌&&◌, cond, List, [], ◌∷◌, ◌++◌, length, get_or, nat_lt, Bor, refl, sym, ◌∙◌, ap, arith, eq-eqb, Option, None, Some, Result, Ok, Err, option_map}
use Rattle.std.proofs.lemmas.Bool.{ne_eqb}
use Rattle.std.proofs.lemmas.Bool.Decides.{Decides-ltb}
use Rattle.std.proofs.lemmas.Str.Parse.{numerals_by_value, parse_digits, tells_all_ascii_digits}
use Rattle.std.specs.Char.{is_ascii_digit}
use Rattle.std.specs.List.{list_all}
use Rattle.std.specs.Option.{MatchOption}
use Rattle.std.specs.Result.{OkIff, result_ok}
use Rattle.std.specs.Str.{all_ascii_digits}
use Rattle.std.specs.Str.Parse.{ParsesUnsigned, digits_value}
use Rattle.fax_trunks.specs.Texts.{cut_at, number, onto_front}

-- no octet of a text is the mark
abbrev pub Lacks : ℕ → List ℕ → Type 0
Lacks mark text = (i : ℕ) → i < length text → get_or text i 0 ≢ mark

pub cut_at_after : (mark : ℕ) (front rest : List ℕ) → Lacks mark front → cut_at mark (front ++ mark ∷ rest) ≡ Some (front, rest)
unfolding cut_at
cut_at_after mark [] rest lacks = ap (λ b. cond b (Some ([], rest)) (option_map (onto_front mark) (cut_at mark rest))) (eq-eqb mark mark refl)
cut_at_after mark (x ∷ front) rest lacks =
    ap (λ b. cond b (Some ([], front ++ mark ∷ rest)) (option_map (onto_front x) (cut_at mark (front ++ mark ∷ rest)))) (ne_eqb x mark (lacks 0 (omega arith)))
    ∙ ap (option_map (onto_front x)) (cut_at_after mark front rest (λ i h. lacks (suc i) (omega arith)))

pub cut_at_none : (mark : ℕ) (text : List ℕ) → Lacks mark text → cut_at mark text ≡ None
unfolding cut_at
cut_at_none mark [] lacks = refl
cut_at_none mark (x ∷ text) lacks =
    ap (λ b. cond b (Some ([], text)) (option_map (onto_front x) (cut_at mark text))) (ne_eqb x mark (lacks 0 (omega arith)))
    ∙ ap (option_map (onto_front x)) (cut_at_none mark text (λ i h. lacks (suc i) (omega arith)))

-- what `split_once` gives
pub cut_at_parts : (mark : ℕ) (text : List ℕ) (r : Option (Bor (List ℕ) × Bor (List ℕ)))
    → MatchOption r (Lacks mark text) (λ x. (text ≡ x.0.now ++ (mark ∷ x.1.now)) × Lacks mark x.0.now)
    → cut_at mark text ≡ option_map (λ parts. (parts.0.now, parts.1.now)) r
cut_at_parts mark text None lacks = cut_at_none mark text lacks
cut_at_parts mark text (Some parts) is = ap (cut_at mark) is.0 ∙ cut_at_after mark parts.0.now parts.1.now is.1

-- digits alone, in std's word
pub all_digits : (text : List ℕ) → list_all is_ascii_digit text ≡ all_ascii_digits text
all_digits [] = refl
all_digits (x ∷ text) = ap (λ b. is_ascii_digit x && b) (all_digits text)

-- both tests of a number
number_test : (digits some small : Bool) (n : ℕ) → digits ≡ true → some ≡ true → small ≡ true → cond (digits && (some && small)) (Some n) None ≡ Some n
number_test true true true n p q r = refl
number_test false some small n p q r = cc
number_test true false small n p q r = cc
number_test true true false n p q r = cc

no_number : (digits some small : Bool) (n : ℕ) → (digits ≡ true → some ≡ true → small ≡ true → ⊥) → cond (digits && (some && small)) (Some n) None ≡ None
no_number true true true n none = absurd (none refl refl refl)
no_number false some small n none = refl
no_number true false small n none = refl
no_number true true false n none = refl

-- the number of digits
pub number_of_digits : (text : List ℕ) → list_all is_ascii_digit text ≡ true → 0 < length text → digits_value 10 text < 2 ^ 8 → number text ≡ Some (digits_value 10 text)
unfolding number
number_of_digits text digits some small =
    number_test (list_all is_ascii_digit text) (nat_lt 0 (length text)) (nat_lt (digits_value 10 text) (2 ^ 8)) (digits_value 10 text) digits
    ((Decides-ltb 0 (length text)).1 some) ((Decides-ltb (digits_value 10 text) (2 ^ 8)).1 small)

-- no number is read of other texts
pub number_none : (text : List ℕ) → list_all is_ascii_digit text ≡ false → number text ≡ None
unfolding number
number_none text others = no_number (list_all is_ascii_digit text) (nat_lt 0 (length text)) (nat_lt (digits_value 10 text) (2 ^ 8)) (digits_value 10 text) (λ digits some small. absurd (true≢false (sym digits ∙ others)))

-- what `parse` gives of digits
pub number_parsed : {E : Type 0} (text : List ℕ) (r : Result ℕ E) → list_all is_ascii_digit text ≡ true → ParsesUnsigned 8 10 text r → number text ≡ result_ok r
unfolding number
number_parsed {E = E} text r digits parsed = told r (parse_digits (numerals_by_value _ tells_all_ascii_digits) 8 text r parsed (sym (all_digits text) ∙ digits))
  where
    told : (r : Result ℕ E) → OkIff r ((0 < length text) × (digits_value 10 text < 2 ^ 8)) (digits_value 10 text) → number text ≡ result_ok r
    told (Ok n) is = number_of_digits text digits is.0.0 is.0.1 ∙ ap Some (sym is.1)
    told (Err e) is = no_number (list_all is_ascii_digit text) (nat_lt 0 (length text)) (nat_lt (digits_value 10 text) (2 ^ 8)) (digits_value 10 text) (λ digits some small. is ((Decides-ltb 0 (length text)).0 some, (Decides-ltb (digits_value 10 text) (2 ^ 8)).0 small))
