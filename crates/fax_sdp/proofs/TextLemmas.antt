-- Texts: cut at an octet, in lines, words and numbers.
use Rattle.std.proofs.Common.{◌≡◌, ◌≢◌, ℕ, suc, ◌<◌, ◌^◌, Bool, true, false, true≢false, ◌&&◌, ◌||◌, cond, List, [], ◌∷◌, ◌++◌, length, get_or, nat_eq, nat_lt, Bor, refl, sym, ◌∙◌, ap, arith, eq-eqb, Option, None, Some, Result, Ok, Err, option_map}
use Rattle.std.proofs.lemmas.Bool.{ne_eqb}
use Rattle.std.proofs.lemmas.Bool.Decides.{Decides-ltb}
use Rattle.std.proofs.lemmas.Str.Parse.{numerals_by_value, parse_digits, tells_all_ascii_digits}
use Rattle.std.specs.Char.{is_ascii_digit}
use Rattle.std.specs.List.{list_all, list_any, onto_first}
use Rattle.std.specs.Option.{MatchOption}
use Rattle.std.specs.Result.{OkIff, result_ok}
use Rattle.std.specs.Str.{all_ascii_digits}
use Rattle.std.specs.Str.Parse.{ParsesUnsigned, digits_value}
use Rattle.fax_sdp.specs.Texts.{cut_at, has_word, is_word, lines_of, number, onto_front, pieces_of, without_return, words_of}

-- no octet of a text is the mark
abbrev pub Lacks : ℕ → List ℕ → Type 0
Lacks mark text = (i : ℕ) → i < length text → get_or text i 0 ≢ mark

-- ---- cut at an octet

pub cut_at_after : (mark : ℕ) (front rest : List ℕ) → Lacks mark front → cut_at mark (front ++ mark ∷ rest) ≡ Some (front, rest)
unfolding cut_at
cut_at_after mark [] rest lacks = ap (λ b. cond b (Some ([], rest)) (option_map (onto_front mark) (cut_at mark rest))) (eq-eqb mark mark refl)
cut_at_after mark (x ∷ front) rest lacks =
    ap (λ b. cond b (Some ([], front ++ mark ∷ rest)) (option_map (onto_front x) (cut_at mark (front ++ mark ∷ rest)))) (ne_eqb x mark (lacks 0 (omega arith)))
    ∙ ap (option_map (onto_front x)) (cut_at_after mark front rest (λ i h. lacks (suc i) (omega arith)))

pub cut_at_none : (mark : ℕ) (text : List ℕ) → Lacks mark text → cut_at mark text ≡ None
unfolding cut_at
cut_at_none mark [] lacks = refl
cut_at_none mark (x ∷ text) lacks =
    ap (λ b. cond b (Some ([], text)) (option_map (onto_front x) (cut_at mark text))) (ne_eqb x mark (lacks 0 (omega arith)))
    ∙ ap (option_map (onto_front x)) (cut_at_none mark text (λ i h. lacks (suc i) (omega arith)))

-- what `split_once` gives
pub cut_at_parts : (mark : ℕ) (text : List ℕ) (r : Option (Bor (List ℕ) × Bor (List ℕ)))
    → MatchOption r (Lacks mark text) (λ x. (text ≡ x.0.now ++ (mark ∷ x.1.now)) × Lacks mark x.0.now)
    → cut_at mark text ≡ option_map (λ parts. (parts.0.now, parts.1.now)) r
cut_at_parts mark text None lacks = cut_at_none mark text lacks
cut_at_parts mark text (Some parts) is = ap (cut_at mark) is.0 ∙ cut_at_after mark parts.0.now parts.1.now is.1

-- ---- lines

pub without_return_at : (line : List ℕ) → without_return (line ++ 13 ∷ []) ≡ line
unfolding without_return
without_return_at [] = refl
without_return_at (x ∷ []) = refl
without_return_at (x ∷ y ∷ line) = ap (λ rest. x ∷ rest) (without_return_at (y ∷ line))

pub without_return_none : (line : List ℕ) → ((front : List ℕ) → line ≢ front ++ 13 ∷ []) → without_return line ≡ line
unfolding without_return
without_return_none [] none = refl
without_return_none (x ∷ []) none = ap (λ b. cond b [] (x ∷ [])) (ne_eqb x 13 (λ e. none [] (ap (λ y. y ∷ []) e)))
without_return_none (x ∷ y ∷ line) none =
    ap (λ rest. x ∷ rest) (without_return_none (y ∷ line) (λ front e. none (x ∷ front) (ap (λ rest. x ∷ rest) e)))

pieces_step : (b : Bool) (x : ℕ) (text first rest : List ℕ)
    → ((first rest : List ℕ) → cut_at 10 text ≡ Some (first, rest) → pieces_of text ≡ first ∷ pieces_of rest)
    → cond b (Some ([], text)) (option_map (onto_front x) (cut_at 10 text)) ≡ Some (first, rest)
    → cond b ([] ∷ pieces_of text) (onto_first x (pieces_of text)) ≡ first ∷ pieces_of rest
pieces_step true x text first rest again e =
    let left : List ℕ × List ℕ = ([], text) in
    let same : left ≡ (first, rest) = cc in
    ap (λ (p : List ℕ × List ℕ). p.0 ∷ pieces_of p.1) same
pieces_step false x text first rest again e = cut_step (cut_at 10 text) refl e
  where
    cut_step : (cut : Option (List ℕ × List ℕ)) → cut_at 10 text ≡ cut → option_map (onto_front x) cut ≡ Some (first, rest) → onto_first x (pieces_of text) ≡ first ∷ pieces_of rest
    cut_step None is e = cc
    cut_step (Some parts) is e =
        let same : onto_front x parts ≡ (first, rest) = cc in
        ap (onto_first x) (again parts.0 parts.1 is) ∙ ap (λ (p : List ℕ × List ℕ). p.0 ∷ pieces_of p.1) same

-- a text that is cut at its first line feed
pub pieces_of_cut : (text first rest : List ℕ) → cut_at 10 text ≡ Some (first, rest) → pieces_of text ≡ first ∷ pieces_of rest
unfolding cut_at pieces_of
pieces_of_cut [] first rest e = cc
pieces_of_cut (x ∷ text) first rest e = pieces_step (nat_eq x 10) x text first rest (pieces_of_cut text) e

pieces_of_nil : pieces_of [] ≡ []
unfolding pieces_of
pieces_of_nil = refl

whole_step : (b : Bool) (x : ℕ) (text : List ℕ) → (0 < length text → cut_at 10 text ≡ None → pieces_of text ≡ text ∷ [])
    → cond b (Some ([], text)) (option_map (onto_front x) (cut_at 10 text)) ≡ None
    → cond b ([] ∷ pieces_of text) (onto_first x (pieces_of text)) ≡ (x ∷ text) ∷ []
whole_step true x text again e = cc
whole_step false x [] again e = ap (onto_first x) pieces_of_nil
whole_step false x (y ∷ text) again e = none_step (cut_at 10 (y ∷ text)) refl e
  where
    none_step : (cut : Option (List ℕ × List ℕ)) → cut_at 10 (y ∷ text) ≡ cut → option_map (onto_front x) cut ≡ None → onto_first x (pieces_of (y ∷ text)) ≡ (x ∷ y ∷ text) ∷ []
    none_step None is e = let one : pieces_of (y ∷ text) ≡ (y ∷ text) ∷ [] = again (omega arith) is in cc
    none_step (Some parts) is e = cc

pieces_whole : (text : List ℕ) → 0 < length text → cut_at 10 text ≡ None → pieces_of text ≡ text ∷ []
unfolding cut_at pieces_of
pieces_whole [] some e = absurd (omega arith)
pieces_whole (x ∷ text) some e = whole_step (nat_eq x 10) x text (pieces_whole text) e

-- ---- lines of a text

-- a text that is cut at its first line feed
pub lines_of_cut : (text first rest line : List ℕ) → cut_at 10 text ≡ Some (first, rest) → line ≡ without_return first → lines_of text ≡ line ∷ lines_of rest
unfolding lines_of
lines_of_cut text first rest line e is = let pieces = pieces_of_cut text first rest e in cc

pub lines_of_nil : lines_of [] ≡ []
unfolding lines_of pieces_of
lines_of_nil = refl

-- a text with no line feed
pub lines_of_whole : (text line : List ℕ) → 0 < length text → cut_at 10 text ≡ None → line ≡ without_return text → lines_of text ≡ line ∷ lines_of []
unfolding lines_of pieces_of
lines_of_whole text line some e is = let pieces = pieces_whole text some e in let none = lines_of_nil in cc

-- ---- numbers

-- digits alone, in std's word
pub all_digits : (text : List ℕ) → list_all is_ascii_digit text ≡ all_ascii_digits text
all_digits [] = refl
all_digits (x ∷ text) = ap (λ b. is_ascii_digit x && b) (all_digits text)

-- both tests of a number
number_test : (digits some small : Bool) (n : ℕ) → digits ≡ true → some ≡ true → small ≡ true → cond (digits && (some && small)) (Some n) None ≡ Some n
number_test true true true n p q r = refl
number_test false some small n p q r = cc
number_test true false small n p q r = cc
number_test true true false n p q r = cc

no_number : (digits some small : Bool) (n : ℕ) → (digits ≡ true → some ≡ true → small ≡ true → ⊥) → cond (digits && (some && small)) (Some n) None ≡ None
no_number true true true n none = absurd (none refl refl refl)
no_number false some small n none = refl
no_number true false small n none = refl
no_number true true false n none = refl

-- the number of digits
pub number_of_digits : (text : List ℕ) → list_all is_ascii_digit text ≡ true → 0 < length text → digits_value 10 text < 2 ^ 32 → number text ≡ Some (digits_value 10 text)
unfolding number
number_of_digits text digits some small =
    number_test (list_all is_ascii_digit text) (nat_lt 0 (length text)) (nat_lt (digits_value 10 text) (2 ^ 32)) (digits_value 10 text) digits
    ((Decides-ltb 0 (length text)).1 some) ((Decides-ltb (digits_value 10 text) (2 ^ 32)).1 small)

-- no number is read of other texts
pub number_none : (text : List ℕ) → list_all is_ascii_digit text ≡ false → number text ≡ None
unfolding number
number_none text others = no_number (list_all is_ascii_digit text) (nat_lt 0 (length text)) (nat_lt (digits_value 10 text) (2 ^ 32)) (digits_value 10 text) (λ digits some small. absurd (true≢false (sym digits ∙ others)))

-- what `parse` gives of digits
pub number_parsed : {E : Type 0} (text : List ℕ) (r : Result ℕ E) → list_all is_ascii_digit text ≡ true → ParsesUnsigned 32 10 text r → number text ≡ result_ok r
unfolding number
number_parsed {E = E} text r digits parsed = told r (parse_digits (numerals_by_value _ tells_all_ascii_digits) 32 text r parsed (sym (all_digits text) ∙ digits))
  where
    told : (r : Result ℕ E) → OkIff r ((0 < length text) × (digits_value 10 text < 2 ^ 32)) (digits_value 10 text) → number text ≡ result_ok r
    told (Ok n) is = number_of_digits text digits is.0.0 is.0.1 ∙ ap Some (sym is.1)
    told (Err e) is = no_number (list_all is_ascii_digit text) (nat_lt 0 (length text)) (nat_lt (digits_value 10 text) (2 ^ 32)) (digits_value 10 text) (λ digits some small. is ((Decides-ltb 0 (length text)).0 some, (Decides-ltb (digits_value 10 text) (2 ^ 32)).0 small))

-- a text that is not empty
pub long_text : (text : List ℕ) (r : Bool) → r ≡ nat_eq (length text) 0 → r ≡ false → 0 < length text
long_text [] r e f = cc
long_text (x ∷ text) r e f = omega arith

-- ---- words

words_step : (b : Bool) (x : ℕ) (text first rest : List ℕ)
    → ((first rest : List ℕ) → cut_at 32 text ≡ Some (first, rest) → words_of text ≡ first ∷ words_of rest)
    → cond b (Some ([], text)) (option_map (onto_front x) (cut_at 32 text)) ≡ Some (first, rest)
    → cond b ([] ∷ words_of text) (onto_first x (words_of text)) ≡ first ∷ words_of rest
words_step true x text first rest again e =
    let left : List ℕ × List ℕ = ([], text) in
    let same : left ≡ (first, rest) = cc in
    ap (λ (p : List ℕ × List ℕ). p.0 ∷ words_of p.1) same
words_step false x text first rest again e = cut_step (cut_at 32 text) refl e
  where
    cut_step : (cut : Option (List ℕ × List ℕ)) → cut_at 32 text ≡ cut → option_map (onto_front x) cut ≡ Some (first, rest) → onto_first x (words_of text) ≡ first ∷ words_of rest
    cut_step None is e = cc
    cut_step (Some parts) is e =
        let same : onto_front x parts ≡ (first, rest) = cc in
        ap (onto_first x) (again parts.0 parts.1 is) ∙ ap (λ (p : List ℕ × List ℕ). p.0 ∷ words_of p.1) same

words_of_cut : (text first rest : List ℕ) → cut_at 32 text ≡ Some (first, rest) → words_of text ≡ first ∷ words_of rest
unfolding cut_at
words_of_cut [] first rest e = cc
words_of_cut (x ∷ text) first rest e = words_step (nat_eq x 32) x text first rest (words_of_cut text) e

one_step : (b : Bool) (x : ℕ) (text : List ℕ) → (cut_at 32 text ≡ None → words_of text ≡ text ∷ [])
    → cond b (Some ([], text)) (option_map (onto_front x) (cut_at 32 text)) ≡ None
    → cond b ([] ∷ words_of text) (onto_first x (words_of text)) ≡ (x ∷ text) ∷ []
one_step true x text again e = cc
one_step false x text again e = none_step (cut_at 32 text) refl e
  where
    none_step : (cut : Option (List ℕ × List ℕ)) → cut_at 32 text ≡ cut → option_map (onto_front x) cut ≡ None → onto_first x (words_of text) ≡ (x ∷ text) ∷ []
    none_step None is e = ap (onto_first x) (again is)
    none_step (Some parts) is e = cc

words_of_one : (text : List ℕ) → cut_at 32 text ≡ None → words_of text ≡ text ∷ []
unfolding cut_at
words_of_one [] e = refl
words_of_one (x ∷ text) e = one_step (nat_eq x 32) x text (words_of_one text) e

or_false : (b : Bool) → (b || false) ≡ b
or_false true = refl
or_false false = refl

-- the word is the first, or among the others
pub has_more : (text first rest word : List ℕ) → cut_at 32 text ≡ Some (first, rest) → has_word text word ≡ (is_word first word || has_word rest word)
unfolding has_word
has_more text first rest word e = ap (list_any (λ each. is_word each word)) (words_of_cut text first rest e)

-- a text of one word
pub has_last : (text word : List ℕ) → cut_at 32 text ≡ None → has_word text word ≡ is_word text word
unfolding has_word
has_last text word e = ap (list_any (λ each. is_word each word)) (words_of_one text e) ∙ or_false (is_word text word)
