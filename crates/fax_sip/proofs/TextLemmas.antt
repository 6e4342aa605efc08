-- Texts: cut at a mark, in lines and in parts; numbers.
use Rattle.std.proofs.Common.{◌≡◌, ℕ, zero, suc, ◌+◌, ◌<◌, ◌≤◌, ◌^◌, Bool, true, false, not, ◌&&◌, cond, List, [], ◌∷◌, length, get_or, take, drop, nat_eq, nat_lt, Option, None, Some, Result, Ok, Err, option_map, refl, sym, ◌∙◌, ap, arith, slice_get}
use Rattle.std.proofs.lemmas.Bool.{and_parts}
use Rattle.std.proofs.lemmas.Bool.Decides.{Decides-ltb, nat_tests}
use Rattle.std.proofs.lemmas.List.{drop_all, drop_more, length-drop}
use Rattle.std.proofs.lemmas.Str.{IsUtf8-from_ascii}
use Rattle.std.proofs.lemmas.Str.Parse.{numerals_by_value, parse_digits, tells_all_ascii_digits}
use Rattle.std.specs.Char.{is_ascii_digit}
use Rattle.std.specs.List.{list_all, onto_first}
use Rattle.std.specs.Result.{OkIff, result_ok}
use Rattle.std.specs.Str.{IsUtf8, all_ascii_digits}
use Rattle.std.specs.Str.Parse.{ParsesUnsigned, digits_value}
use Rattle.fax_sip.specs.declared.mark.Mark.{Mark}
use Rattle.fax_sip.specs.declared.mark.Mark.TheVariants as marks
use Rattle.fax_sip.specs.declared.mark.Quoting.{Quoting}
use Rattle.fax_sip.specs.declared.mark.Quoting.TheVariants.{Outside}
use Rattle.fax_sip.specs.Texts.{after, cut, ends_line, first_is, goes_on, lines_of, number, parted, parts_from, parts_of, place_of, stands, width}

-- ---- the first octet

pub first_some : (test : ℕ → Bool) (text : List ℕ) (first : ℕ) → Some first ≡ slice_get text 0 → first_is test text ≡ test first
first_some test [] first e = cc
first_some test (x ∷ text) first e = let same : first ≡ x = cc in ap test (sym same)

pub first_none : (test : ℕ → Bool) (text : List ℕ) → None ≡ slice_get text 0 → first_is test text ≡ false
first_none test [] e = refl
first_none test (x ∷ text) e = cc

pub first_room : (text : List ℕ) (first : ℕ) → Some first ≡ slice_get text 0 → 1 ≤ length text
first_room [] first e = cc
first_room (x ∷ text) first e = omega arith

-- ---- the place of a mark

-- a place, counted from further on
abbrev pub onward : ℕ → Option ℕ → Option ℕ
onward i place = option_map (λ k. i + k) place

onward_next : (i : ℕ) (place : Option ℕ) → onward i (option_map suc place) ≡ onward (i + 1) place
onward_next i None = refl
onward_next i (Some k) = let same : i + suc k ≡ i + 1 + k = omega arith in ap Some same

place_stands : (mark : Mark) (quoting : Quoting) (text : List ℕ) → 0 < length text → stands mark quoting text ≡ true → place_of mark quoting text ≡ Some 0
unfolding place_of
place_stands mark quoting [] some here = absurd (omega arith)
place_stands mark quoting (x ∷ text) some here = ap (λ (b : Bool). cond b (Some 0) (option_map suc (place_of mark (after quoting x) text))) here

place_passed : (mark : Mark) (quoting : Quoting) (x : ℕ) (text : List ℕ) → stands mark quoting (x ∷ text) ≡ false → place_of mark quoting (x ∷ text) ≡ option_map suc (place_of mark (after quoting x) text)
unfolding place_of
place_passed mark quoting x text passed = ap (λ (b : Bool). cond b (Some 0) (option_map suc (place_of mark (after quoting x) text))) passed

pub place_found : (mark : Mark) (quoting : Quoting) (text : List ℕ) (whole : Option ℕ) (i : ℕ) → i < length text → whole ≡ onward i (place_of mark quoting (drop i text)) → stands mark quoting (drop i text) ≡ true → Some i ≡ whole
place_found mark quoting text whole i within is here =
    let some : 0 < length (drop i text) = simp length-drop (omega arith) in
    let same : i ≡ i + 0 = omega arith in
    ap Some same ∙ sym (is ∙ ap (onward i) (place_stands mark quoting (drop i text) some here))

pub place_further : (mark : Mark) (quoting : Quoting) (text : List ℕ) (whole : Option ℕ) (i x : ℕ) → i < length text → x ≡ get_or text i 0 → whole ≡ onward i (place_of mark quoting (drop i text)) → stands mark quoting (drop i text) ≡ false
    → whole ≡ onward (i + 1) (place_of mark (after quoting x) (drop (i + 1) text))
place_further mark quoting text whole i x within item is passed =
    let left : List ℕ = drop (i + 1) text in
    let parts : drop i text ≡ x ∷ left = drop_more text i 0 within ∙ ap (λ y. y ∷ left) (sym item) in
    let passed' : stands mark quoting (x ∷ left) ≡ false = ap (stands mark quoting) (sym parts) ∙ passed in
    is ∙ ap (λ (rest : List ℕ). onward i (place_of mark quoting rest)) parts ∙ ap (onward i) (place_passed mark quoting x left passed') ∙ onward_next i (place_of mark (after quoting x) left)

pub place_nowhere : (mark : Mark) (quoting : Quoting) (text : List ℕ) (whole : Option ℕ) (i : ℕ) → length text ≤ i → whole ≡ onward i (place_of mark quoting (drop i text)) → None ≡ whole
unfolding place_of
place_nowhere mark quoting text whole i past is = sym (is ∙ ap (λ (rest : List ℕ). onward i (place_of mark quoting rest)) (drop_all i text past))

-- ---- lines

-- one octet is no end of a line
and_none : (b c : Bool) → (b && false && c) ≡ false
and_none true c = refl
and_none false c = refl

one_ends_not : (a : ℕ) → ends_line (a ∷ []) ≡ false
one_ends_not a = and_none (nat_eq 13 a) (not (goes_on []))

lines_step : (here : Bool) (a b : ℕ) (text : List ℕ) (i : ℕ) (place : Option ℕ)
    → ((j : ℕ) → place ≡ Some j → lines_of (b ∷ text) ≡ take j (b ∷ text) ∷ lines_of (drop 2 (drop j (b ∷ text))))
    → cond here (Some 0) (option_map suc place) ≡ Some i
    → cond here ([] ∷ lines_of text) (onto_first a (lines_of (b ∷ text))) ≡ take i (a ∷ b ∷ text) ∷ lines_of (drop 2 (drop i (a ∷ b ∷ text)))
lines_step true a b text i place again e = let same : 0 ≡ i = cc in ap (λ k. take k (a ∷ b ∷ text) ∷ lines_of (drop 2 (drop k (a ∷ b ∷ text)))) same
lines_step false a b text i None again e = cc
lines_step false a b text i (Some j) again e =
    let same : suc j ≡ i = cc in
    ap (onto_first a) (again j refl) ∙ ap (λ k. take k (a ∷ b ∷ text) ∷ lines_of (drop 2 (drop k (a ∷ b ∷ text)))) same

one_octet : (here : Bool) (a i : ℕ) → here ≡ false → cond here (Some 0) (option_map suc None) ≡ Some i → (a ∷ []) ∷ [] ≡ take i (a ∷ []) ∷ lines_of (drop 2 (drop i (a ∷ [])))
one_octet true a i none e = cc
one_octet false a i none e = cc

-- a text that is cut at the end of its first line
pub lines_cut : (text : List ℕ) (quoting : Quoting) (i : ℕ) → place_of marks.LineEnd quoting text ≡ Some i → lines_of text ≡ take i text ∷ lines_of (drop 2 (drop i text))
unfolding place_of lines_of
lines_cut [] quoting i e = cc
lines_cut (a ∷ []) quoting i e = one_octet (ends_line (a ∷ [])) a i (one_ends_not a) e
lines_cut (a ∷ b ∷ text) quoting i e = lines_step (ends_line (a ∷ b ∷ text)) a b text i (place_of marks.LineEnd (after quoting a) (b ∷ text)) (lines_cut (b ∷ text) (after quoting a)) e

whole_step : (here : Bool) (a b : ℕ) (text : List ℕ) (place : Option ℕ) → (place ≡ None → lines_of (b ∷ text) ≡ (b ∷ text) ∷ [])
    → cond here (Some 0) (option_map suc place) ≡ None → cond here ([] ∷ lines_of text) (onto_first a (lines_of (b ∷ text))) ≡ (a ∷ b ∷ text) ∷ []
whole_step true a b text place again e = cc
whole_step false a b text None again e = ap (onto_first a) (again refl)
whole_step false a b text (Some j) again e = cc

-- a text of one line, whose end lacks
pub lines_whole : (text : List ℕ) (quoting : Quoting) → 0 < length text → place_of marks.LineEnd quoting text ≡ None → lines_of text ≡ text ∷ []
unfolding place_of lines_of
lines_whole [] quoting some e = absurd (omega arith)
lines_whole (a ∷ []) quoting some e = refl
lines_whole (a ∷ b ∷ text) quoting some e = whole_step (ends_line (a ∷ b ∷ text)) a b text (place_of marks.LineEnd (after quoting a) (b ∷ text)) (lines_whole (b ∷ text) (after quoting a) (omega arith)) e

pub lines_of_nil : lines_of [] ≡ []
unfolding lines_of
lines_of_nil = refl

cut_some : (mark : Mark) (text front rest : List ℕ) (place : Option ℕ) → option_map (parted (width mark) text) place ≡ Some (front, rest)
    → (i : ℕ) × (place ≡ Some i) × (front ≡ take i text) × (rest ≡ drop (width mark) (drop i text))
cut_some mark text front rest None e = cc
cut_some mark text front rest (Some i) e =
    let same : parted (width mark) text i ≡ (front, rest) = cc in
    (i, refl, sym (ap (λ (p : List ℕ × List ℕ). p.0) same), sym (ap (λ (p : List ℕ × List ℕ). p.1) same))

cut_none : (mark : Mark) (text : List ℕ) (place : Option ℕ) → option_map (parted (width mark) text) place ≡ None → place ≡ None
cut_none mark text None e = refl
cut_none mark text (Some i) e = cc

pub first_line_cut : (text front rest : List ℕ) → cut marks.LineEnd text ≡ Some (front, rest) → lines_of text ≡ front ∷ lines_of rest
first_line_cut text front rest e =
    let (i, place, front_is, rest_is) = cut_some marks.LineEnd text front rest (place_of marks.LineEnd Outside text) e in
    lines_cut text Outside i place ∙ ap (λ f. f ∷ lines_of (drop 2 (drop i text))) (sym front_is) ∙ ap (λ r. front ∷ lines_of r) (sym rest_is)

pub first_line_whole : (text : List ℕ) → 0 < length text → cut marks.LineEnd text ≡ None → lines_of text ≡ text ∷ lines_of []
first_line_whole text some e =
    lines_whole text Outside some (cut_none marks.LineEnd text (place_of marks.LineEnd Outside text) e) ∙ ap (λ rest. text ∷ rest) (sym lines_of_nil)

-- ---- parts

parts_step : (here : Bool) (mark x : ℕ) (next : Quoting) (text : List ℕ) (i : ℕ) (place : Option ℕ)
    → ((j : ℕ) → place ≡ Some j → parts_from mark next text ≡ take j text ∷ parts_from mark Outside (drop 1 (drop j text)))
    → cond here (Some 0) (option_map suc place) ≡ Some i
    → cond here ([] ∷ parts_from mark Outside text) (onto_first x (parts_from mark next text)) ≡ take i (x ∷ text) ∷ parts_from mark Outside (drop 1 (drop i (x ∷ text)))
parts_step true mark x next text i place again e = let same : 0 ≡ i = cc in ap (λ k. take k (x ∷ text) ∷ parts_from mark Outside (drop 1 (drop k (x ∷ text)))) same
parts_step false mark x next text i None again e = cc
parts_step false mark x next text i (Some j) again e =
    let same : suc j ≡ i = cc in
    ap (onto_first x) (again j refl) ∙ ap (λ k. take k (x ∷ text) ∷ parts_from mark Outside (drop 1 (drop k (x ∷ text)))) same

parts_cut : (mark : ℕ) (text : List ℕ) (quoting : Quoting) (i : ℕ) → place_of (marks.Outside mark) quoting text ≡ Some i
    → parts_from mark quoting text ≡ take i text ∷ parts_from mark Outside (drop 1 (drop i text))
unfolding place_of parts_from
parts_cut mark [] quoting i e = cc
parts_cut mark (x ∷ text) quoting i e = parts_step (stands (marks.Outside mark) quoting (x ∷ text)) mark x (after quoting x) text i (place_of (marks.Outside mark) (after quoting x) text) (parts_cut mark text (after quoting x)) e

one_step : (here : Bool) (mark x : ℕ) (next : Quoting) (text : List ℕ) (place : Option ℕ) → (place ≡ None → parts_from mark next text ≡ text ∷ [])
    → cond here (Some 0) (option_map suc place) ≡ None → cond here ([] ∷ parts_from mark Outside text) (onto_first x (parts_from mark next text)) ≡ (x ∷ text) ∷ []
one_step true mark x next text place again e = cc
one_step false mark x next text None again e = ap (onto_first x) (again refl)
one_step false mark x next text (Some j) again e = cc

parts_whole : (mark : ℕ) (text : List ℕ) (quoting : Quoting) → place_of (marks.Outside mark) quoting text ≡ None → parts_from mark quoting text ≡ text ∷ []
unfolding place_of parts_from
parts_whole mark [] quoting e = refl
parts_whole mark (x ∷ text) quoting e = one_step (stands (marks.Outside mark) quoting (x ∷ text)) mark x (after quoting x) text (place_of (marks.Outside mark) (after quoting x) text) (parts_whole mark text (after quoting x)) e

-- the first part, and what is after it
pub first_part_cut : (mark : ℕ) (text front rest : List ℕ) → cut (marks.Outside mark) text ≡ Some (front, rest) → parts_of mark text ≡ front ∷ parts_of mark rest
first_part_cut mark text front rest e =
    let (i, place, front_is, rest_is) = cut_some (marks.Outside mark) text front rest (place_of (marks.Outside mark) Outside text) e in
    parts_cut mark text Outside i place ∙ ap (λ f. f ∷ parts_of mark (drop 1 (drop i text))) (sym front_is) ∙ ap (λ r. front ∷ parts_of mark r) (sym rest_is)

pub first_part_whole : (mark : ℕ) (text : List ℕ) → cut (marks.Outside mark) text ≡ None → parts_of mark text ≡ text ∷ []
first_part_whole mark text e = parts_whole mark text Outside (cut_none (marks.Outside mark) text (place_of (marks.Outside mark) Outside text) e)

-- ---- numbers

-- digits alone, in std's word
all_digits : (text : List ℕ) → list_all is_ascii_digit text ≡ all_ascii_digits text
all_digits [] = refl
all_digits (x ∷ text) = ap (λ b. is_ascii_digit x && b) (all_digits text)

-- both tests of a number
number_test : (digits some small : Bool) (n : ℕ) → digits ≡ true → some ≡ true → small ≡ true → cond (digits && (some && small)) (Some n) None ≡ Some n
number_test true true true n p q r = refl
number_test false some small n p q r = cc
number_test true false small n p q r = cc
number_test true true false n p q r = cc

no_number : (digits some small : Bool) (n : ℕ) → (digits ≡ true → some ≡ true → small ≡ true → ⊥) → cond (digits && (some && small)) (Some n) None ≡ None
no_number true true true n none = absurd (none refl refl refl)
no_number false some small n none = refl
no_number true false small n none = refl
no_number true true false n none = refl

-- no number is read of other texts
pub number_none : (text : List ℕ) → list_all is_ascii_digit text ≡ false → number text ≡ None
unfolding number
number_none text others = no_number (list_all is_ascii_digit text) (nat_lt 0 (length text)) (nat_lt (digits_value 10 text) (2 ^ 32)) (digits_value 10 text) (λ digits some small. cc)

-- what `parse` gives of digits
pub number_parsed : {E : Type 0} (text : List ℕ) (r : Result ℕ E) → list_all is_ascii_digit text ≡ true → ParsesUnsigned 32 10 text r → number text ≡ result_ok r
unfolding number
number_parsed {E = E} text r digits parsed = told r (parse_digits (numerals_by_value _ tells_all_ascii_digits) 32 text r parsed (sym (all_digits text) ∙ digits))
  where
    told : (r : Result ℕ E) → OkIff r ((0 < length text) × (digits_value 10 text < 2 ^ 32)) (digits_value 10 text) → number text ≡ result_ok r
    told (Ok n) is =
        number_test (list_all is_ascii_digit text) (nat_lt 0 (length text)) (nat_lt (digits_value 10 text) (2 ^ 32)) (digits_value 10 text) digits
        ((Decides-ltb 0 (length text)).1 is.0.0) ((Decides-ltb (digits_value 10 text) (2 ^ 32)).1 is.0.1) ∙ ap Some (sym is.1)
    told (Err e) is = no_number (list_all is_ascii_digit text) (nat_lt 0 (length text)) (nat_lt (digits_value 10 text) (2 ^ 32)) (digits_value 10 text) (λ digits some small. is ((Decides-ltb 0 (length text)).0 some, (Decides-ltb (digits_value 10 text) (2 ^ 32)).0 small))

digit_small : (x : ℕ) → is_ascii_digit x ≡ true → x < 128
digit_small x e = grind (arith, nat_tests)

digits_small : (text : List ℕ) → list_all is_ascii_digit text ≡ true → (i : ℕ) → get_or text i 0 < 128
digits_small [] e i = omega arith
digits_small (x ∷ text) e zero = digit_small x (and_parts (is_ascii_digit x) (list_all is_ascii_digit text) e).0
digits_small (x ∷ text) e (suc i) = digits_small text (and_parts (is_ascii_digit x) (list_all is_ascii_digit text) e).1 i

-- digits are text
pub digits_are_text : (text : List ℕ) → list_all is_ascii_digit text ≡ true → IsUtf8 text
digits_are_text text e = IsUtf8-from_ascii text (digits_small text e)

-- a text that is not empty
pub long_text : (text : List ℕ) (r : Bool) → r ≡ nat_eq (length text) 0 → r ≡ false → 0 < length text
long_text [] r e f = cc
long_text (x ∷ text) r e f = omega arith
