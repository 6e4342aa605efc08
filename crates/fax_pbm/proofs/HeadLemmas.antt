-- White space, comments and numbers, octet by octet.
use Rattle.std.proofs.Common.{◌≡◌, ℕ, suc, ◌+◌, ◌-◌, ◌*◌, ◌^◌, ◌<◌, ◌≤◌, true, false, not, cond, ◌||◌, ◌==◌, nat_le, min, List, [], ◌∷◌, ◌++◌, Result, Ok, Err, length, drop, get_or, decimal, refl, ◌∙◌, ap, ap₂, arith, add-one, drop-cons}
use Rattle.std.proofs.lemmas.Bool.{and_from, and_parts, cond-true, le-leb, leb-true, ne_eqb, or_from, or_left}
use Rattle.std.proofs.lemmas.Fmt.{decimal_nonempty, digits_decimal, digits_value-decimal}
use Rattle.std.proofs.lemmas.Str.Parse.{FoldsDigits, IsNumeralModel, numerals_by_fold, tells_all_ascii_digits}
use Rattle.std.specs.Char.{is_ascii_digit}
use Rattle.std.specs.Int.{IsInRange}
use Rattle.std.specs.Str.{all_ascii_digits}
use Rattle.fax_pbm.specs.declared.fault.PbmFault.{PbmFault}
use Rattle.fax_pbm.specs.declared.fault.PbmFault.TheVariants.{NoHead}
use Rattle.fax_pbm.specs.Heads.{after_blanks, after_digits, ends_line, is_space, number_after}
use Rattle.fax_pbm.specs.Pictures.{Number, Head, ◌>>=◌, most_number, number_at, number_of, raster_of, head_after, head_of}

-- an octet of a comment
pub after_blanks-comment : (text : List ℕ) (i : ℕ) → i < length text
    → after_blanks true (drop i text) ≡ after_blanks (not (ends_line (get_or text i 0))) (drop (i + 1) text)
unfolding after_blanks
after_blanks-comment text i h = rw (add-one, drop-cons text i 0) refl

-- white space, or the beginning of a comment
pub after_blanks-blank : (text : List ℕ) (i : ℕ) → i < length text → (is_space (get_or text i 0) || get_or text i 0 == 35) ≡ true
    → after_blanks false (drop i text) ≡ after_blanks (get_or text i 0 == 35) (drop (i + 1) text)
unfolding after_blanks
after_blanks-blank text i h blank =
    rw (add-one, drop-cons text i 0)
    (ap (λ b. cond b (after_blanks (get_or text i 0 == 35) (drop (suc i) text)) (get_or text i 0 ∷ drop (suc i) text)) blank)

-- another octet
pub after_blanks-other : (text : List ℕ) (i : ℕ) → i < length text → (is_space (get_or text i 0) || get_or text i 0 == 35) ≡ false
    → after_blanks false (drop i text) ≡ drop i text
unfolding after_blanks
after_blanks-other text i h other =
    rw (drop-cons text i 0)
    (ap (λ b. cond b (after_blanks (get_or text i 0 == 35) (drop (suc i) text)) (get_or text i 0 ∷ drop (suc i) text)) other)

-- a digit
pub number_after-digit : (n : ℕ) (text : List ℕ) (i : ℕ) → i < length text → is_ascii_digit (get_or text i 0) ≡ true
    → number_after n (drop i text) ≡ number_after (10 * n + (get_or text i 0 - 48)) (drop (i + 1) text)
unfolding number_after
number_after-digit n text i h digit =
    rw (add-one, drop-cons text i 0)
    (ap (λ b. cond b (number_after (10 * n + (get_or text i 0 - 48)) (drop (suc i) text)) n) digit)

pub after_digits-digit : (text : List ℕ) (i : ℕ) → i < length text → is_ascii_digit (get_or text i 0) ≡ true
    → after_digits (drop i text) ≡ after_digits (drop (i + 1) text)
unfolding after_digits
after_digits-digit text i h digit =
    rw (add-one, drop-cons text i 0)
    (ap (λ b. cond b (after_digits (drop (suc i) text)) (get_or text i 0 ∷ drop (suc i) text)) digit)

-- an octet that is no digit
pub number_after-other : (n : ℕ) (text : List ℕ) (i : ℕ) → i < length text → is_ascii_digit (get_or text i 0) ≡ false → number_after n (drop i text) ≡ n
unfolding number_after
number_after-other n text i h other =
    rw (drop-cons text i 0)
    (ap (λ b. cond b (number_after (10 * n + (get_or text i 0 - 48)) (drop (suc i) text)) n) other)

pub after_digits-other : (text : List ℕ) (i : ℕ) → i < length text → is_ascii_digit (get_or text i 0) ≡ false → after_digits (drop i text) ≡ drop i text
unfolding after_digits
after_digits-other text i h other =
    rw (drop-cons text i 0)
    (ap (λ b. cond b (after_digits (drop (suc i) text)) (get_or text i 0 ∷ drop (suc i) text)) other)

-- no octet is the first of none
pub no_first : (text : List ℕ) → length text ≡ 0 → get_or text 0 0 ≡ 0
no_first [] none = refl
no_first (c ∷ text) none = absurd (omega arith)

-- ---- a head that was written

is_digit_in : (c : ℕ) → IsInRange 48 57 c → is_ascii_digit c ≡ true
is_digit_in c range = and_from (nat_le 48 c) (nat_le c 57) (le-leb 48 c range.0) (le-leb c 57 range.1)

folds : FoldsDigits number_after
unfolding number_after
folds = record {
  empty = λ n. refl;
  more = λ n c cs range.
      let turned : 10 * n + (c - 48) ≡ n * 10 + (c - 48) = omega arith in
      cond-true (is_ascii_digit c) (number_after (10 * n + (c - 48)) cs) n (is_digit_in c range) ∙ ap (λ (m : ℕ). number_after m cs) turned;
}

own : IsNumeralModel (λ ds. all_ascii_digits ds ≡ true) (number_after 0)
own = numerals_by_fold (λ ds. all_ascii_digits ds ≡ true) tells_all_ascii_digits number_after folds

-- digits, and then an octet that is none
number_after-append : (n : ℕ) (digits : List ℕ) (c : ℕ) (rest : List ℕ) → is_ascii_digit c ≡ false → number_after n (digits ++ c ∷ rest) ≡ number_after n digits
unfolding number_after
number_after-append n [] c rest other = ap (λ b. cond b (number_after (10 * n + (c - 48)) rest) n) other
number_after-append n (d ∷ digits) c rest other =
    ap (λ m. cond (is_ascii_digit d) m n) (number_after-append (10 * n + (d - 48)) digits c rest other)

after_digits-append : (digits : List ℕ) (c : ℕ) (rest : List ℕ) → all_ascii_digits digits ≡ true → is_ascii_digit c ≡ false → after_digits (digits ++ c ∷ rest) ≡ c ∷ rest
unfolding after_digits
after_digits-append [] c rest are other = ap (λ b. cond b (after_digits rest) (c ∷ rest)) other
after_digits-append (d ∷ digits) c rest are other =
    let parts = and_parts (is_ascii_digit d) (all_ascii_digits digits) are in
    ap (λ b. cond b (after_digits (digits ++ c ∷ rest)) (d ∷ (digits ++ c ∷ rest))) parts.0 ∙ after_digits-append digits c rest parts.1 other

-- a digit is neither white space nor the beginning of a comment
no_blank : (c : ℕ) → is_ascii_digit c ≡ true → (is_space c || c == 35) ≡ false
no_blank c digit =
    let low : 48 ≤ c = leb-true 48 c (and_parts (nat_le 48 c) (nat_le c 57) digit).0 in
    or_from _ _ (or_from _ _ (or_from _ _ (or_from _ _ (ne_eqb c 32 (λ e. omega arith)) (ne_eqb c 9 (λ e. omega arith))) (ne_eqb c 10 (λ e. omega arith))) (ne_eqb c 13 (λ e. omega arith)))
    (ne_eqb c 35 (λ e. omega arith))

after_blanks-digit : (c : ℕ) (rest : List ℕ) → is_ascii_digit c ≡ true → after_blanks false (c ∷ rest) ≡ c ∷ rest
unfolding after_blanks
after_blanks-digit c rest digit = ap (λ b. cond b (after_blanks (c == 35) rest) (c ∷ rest)) (no_blank c digit)

abbrev made_number : ℕ → List ℕ → Number
made_number value after = record { value = value; after = after }

abbrev made_ok : ℕ → List ℕ → Result Number PbmFault
made_ok value after = Ok (made_number value after)

abbrev no_number : Result Number PbmFault
no_number = Err NoHead

-- a numeral after one white space
number_of-numeral : (digits : List ℕ) (space c : ℕ) (rest : List ℕ) → 0 < length digits → all_ascii_digits digits ≡ true → is_space space ≡ true → (space == 35) ≡ false
    → is_ascii_digit c ≡ false → number_after 0 digits ≤ most_number
    → number_of (space ∷ (digits ++ c ∷ rest)) ≡ Ok (record { value = number_after 0 digits; after = c ∷ rest })
unfolding number_of after_blanks
number_of-numeral [] space c rest some are white plain other small = absurd (omega arith)
number_of-numeral (d ∷ digits) space c rest some are white plain other small =
    let digit : is_ascii_digit d ≡ true = (and_parts (is_ascii_digit d) (all_ascii_digits digits) are).0 in
    let text : List ℕ = d ∷ (digits ++ c ∷ rest) in
    let blank : (is_space space || space == 35) ≡ true = or_left (is_space space) (space == 35) white in
    let skipped : after_blanks false (space ∷ text) ≡ text =
    ap (λ b. cond b (after_blanks (space == 35) text) (space ∷ text)) blank ∙ ap (λ b. after_blanks b text) plain ∙ after_blanks-digit d (digits ++ c ∷ rest) digit in
    let value : min (number_after 0 text) most_number ≡ number_after 0 (d ∷ digits) =
    ap (λ n. min n most_number) (number_after-append 0 (d ∷ digits) c rest other) ∙ (let s : number_after 0 (d ∷ digits) ≤ 4294967295 = small in omega arith) in
    let after : after_digits text ≡ c ∷ rest = after_digits-append (d ∷ digits) c rest are other in
    ap number_at skipped
    ∙ ap (λ b. cond b (made_ok (min (number_after 0 text) most_number) (after_digits text)) no_number) digit
    ∙ ap₂ made_ok value after

-- a number after one white space
number_of-decimal : (n : ℕ) (space c : ℕ) (rest : List ℕ) → n < 2 ^ 32 → is_space space ≡ true → (space == 35) ≡ false → is_ascii_digit c ≡ false
    → number_of (space ∷ (decimal n ++ c ∷ rest)) ≡ Ok (record { value = n; after = c ∷ rest })
number_of-decimal n space c rest small white plain other =
    let long : n < 2 ^ 64 = omega arith in
    let value : number_after 0 (decimal n) ≡ n = digits_value-decimal own n long in
    let made : ℕ → Result Number PbmFault = λ v. Ok (made_number v (c ∷ rest)) in
    number_of-numeral (decimal n) space c rest (decimal_nonempty n long) (digits_decimal own n long) white plain other (omega (arith, value))
    ∙ ap made value

abbrev made_head : ℕ → ℕ → List ℕ → Result Head PbmFault
made_head width height raster = Ok (record { width = width; height = height; raster = raster })

-- a head that was written, and a raster
pub head_of-written : (width height : ℕ) (raster : List ℕ) → width < 2 ^ 32 → height < 2 ^ 32
    → head_of (80 ∷ 52 ∷ 10 ∷ (decimal width ++ 32 ∷ (decimal height ++ 10 ∷ raster))) ≡ Ok (record { width = width; height = height; raster = raster })
unfolding head_of head_after raster_of
head_of-written width height raster wide high =
    let second : List ℕ = decimal height ++ 10 ∷ raster in
    ap (λ (r : Result Number PbmFault). r >>= (λ w. number_of w.after >>= (λ h. raster_of h.after >>= (λ rest. made_head w.value h.value rest))))
    (number_of-decimal width 10 32 second wide refl refl refl)
    ∙ ap (λ (r : Result Number PbmFault). r >>= (λ h. raster_of h.after >>= (λ rest. made_head width h.value rest)))
    (number_of-decimal height 32 10 raster high refl refl refl)
