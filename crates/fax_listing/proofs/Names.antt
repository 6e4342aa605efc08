-- The names of pictures.
use Rattle.std.proofs.Common.{◌≡◌, ◌∙◌, ℕ, ◌+◌, ◌%◌, ◌^◌, ◌<◌, List, [], ◌∷◌, ◌++◌, codes, decimal, refl, sym, ap, ap₂, subst, arith, append_assoc}
use Rattle.std.proofs.lemmas.Fmt.{decimal_by_steps, decimal_injective}
use Rattle.std.proofs.lemmas.List.{append_cancel_left, append_cancel_right}
use Rattle.percent_encoding.specs.Percent.{percent_decode, percent_encode}
use Rattle.percent_encoding.proofs.PercentLemmas.{round_trip}
use Rattle.fax_spool.specs.RecordOctets.{PageValue}
use Rattle.fax_listing.specs.Laws.{IsPage, PagesHaveNamesOfTheirOwn}
use Rattle.fax_listing.specs.Pictures.{picture_name}
use Rattle.fax_listing.specs.declared.pictures.TheConstants.{ESCAPED}

-- ---- lists that are split at their last dash

-- there is no dash
HasNoDash : List ℕ → Type 0
HasNoDash [] = Unit {0}
HasNoDash (c ∷ cs) = (c ≡ 45 → ⊥) × HasNoDash cs

no_dash_in : (xs rest : List ℕ) → HasNoDash (xs ++ 45 ∷ rest) → ⊥
unfolding HasNoDash
no_dash_in [] rest none = none.0 refl
no_dash_in (x ∷ xs) rest none = no_dash_in xs rest none.1

tails : (x y : ℕ) (xs ys : List ℕ) → x ∷ xs ≡ y ∷ ys → xs ≡ ys
tails x y xs ys same = cc

heads : (x y : ℕ) (xs ys : List ℕ) → x ∷ xs ≡ y ∷ ys → x ≡ y
heads x y xs ys same = cc

last_dash : (l d m e : List ℕ) → HasNoDash d → HasNoDash e → l ++ 45 ∷ d ≡ m ++ 45 ∷ e → (l ≡ m) × (d ≡ e)
last_dash [] d [] e p q same = (refl, tails 45 45 d e same)
last_dash [] d (y ∷ m) e p q same = absurd (no_dash_in m e (subst HasNoDash (tails 45 y d (m ++ 45 ∷ e) same) p))
last_dash (x ∷ l) d [] e p q same = absurd (no_dash_in l d (subst HasNoDash (sym (tails x 45 (l ++ 45 ∷ d) e same)) q))
last_dash (x ∷ l) d (y ∷ m) e p q same =
    let rest = last_dash l d m e p q (tails x y (l ++ 45 ∷ d) (m ++ 45 ∷ e) same) in
    (ap₂ (λ c cs. c ∷ cs) (heads x y (l ++ 45 ∷ d) (m ++ 45 ∷ e) same) rest.0, rest.1)

no_dash_push : (cs : List ℕ) (c : ℕ) → HasNoDash cs → (c ≡ 45 → ⊥) → HasNoDash (cs ++ c ∷ [])
unfolding HasNoDash
no_dash_push [] c none other = (other, tt)
no_dash_push (x ∷ cs) c none other = (none.0, no_dash_push cs c none.1 other)

one_digit : (n : ℕ) → n < 10 → HasNoDash ((48 + n) ∷ [])
unfolding HasNoDash
one_digit n small = (λ is. absurd (omega (arith, is)), tt)

no_dash_in_decimal : (n : ℕ) → n < 2 ^ 64 → HasNoDash (decimal n)
no_dash_in_decimal n small =
    decimal_by_steps (λ k ds. HasNoDash ds) one_digit (λ k ds more none. no_dash_push ds (48 + k % 10) none (λ is. absurd (omega (arith, is)))) n small

-- ---- names

front_of : (prefix : List ℕ) → PageValue → List ℕ
front_of prefix page = prefix ++ (45 ∷ percent_encode ESCAPED page.line)

regroup : (p e l c n s : List ℕ) → ((p ++ 45 ∷ []) ++ e) ++ ((((((45 ∷ [] ++ l) ++ 45 ∷ []) ++ c) ++ 45 ∷ []) ++ n) ++ s) ≡ ((((p ++ (45 ∷ e)) ++ 45 ∷ l) ++ 45 ∷ c) ++ 45 ∷ n) ++ s
regroup p e l c n s =
    let front : List ℕ = p ++ (45 ∷ e) in
    let lives : List ℕ = 45 ∷ l in
    let calls : List ℕ = lives ++ (45 ∷ c) in
    let numbers : List ℕ = calls ++ (45 ∷ n) in
    ap (λ (x : List ℕ). x ++ ((((((45 ∷ [] ++ l) ++ 45 ∷ []) ++ c) ++ 45 ∷ []) ++ n) ++ s)) (append_assoc p (45 ∷ []) e)
    ∙ ap (λ (x : List ℕ). front ++ ((((x ++ 45 ∷ []) ++ n)) ++ s)) (append_assoc lives (45 ∷ []) c)
    ∙ ap (λ (x : List ℕ). front ++ (x ++ s)) (append_assoc calls (45 ∷ []) n)
    ∙ sym (append_assoc front numbers s)
    ∙ ap (λ (x : List ℕ). x ++ s) (sym (append_assoc front calls (45 ∷ n)) ∙ ap (λ (x : List ℕ). x ++ 45 ∷ n) (sym (append_assoc front lives (45 ∷ c))))

by_dashes : (prefix : List ℕ) (page : PageValue) → picture_name prefix page ≡ (((front_of prefix page ++ 45 ∷ decimal page.life) ++ 45 ∷ decimal page.call) ++ 45 ∷ decimal page.number) ++ codes ".pbm"
unfolding picture_name front_of
by_dashes prefix page = regroup prefix (percent_encode ESCAPED page.line) (decimal page.life) (decimal page.call) (decimal page.number) (codes ".pbm")

same_front : (prefix : List ℕ) (page other : PageValue) → front_of prefix page ≡ front_of prefix other → percent_encode ESCAPED page.line ≡ percent_encode ESCAPED other.line
unfolding front_of
same_front prefix page other same = tails 45 45 (percent_encode ESCAPED page.line) (percent_encode ESCAPED other.line) (append_cancel_left prefix (45 ∷ percent_encode ESCAPED page.line) (45 ∷ percent_encode ESCAPED other.line) same)

same_line : (page other : PageValue) → IsPage page → IsPage other → percent_encode ESCAPED page.line ≡ percent_encode ESCAPED other.line → page.line ≡ other.line
same_line page other is also same =
    sym (round_trip ESCAPED page.line refl is.octets) ∙ ap percent_decode same ∙ round_trip ESCAPED other.line refl also.octets

pub pages_have_names_of_their_own : PagesHaveNamesOfTheirOwn
pages_have_names_of_their_own prefix page other is also same =
    let fits : (n : ℕ) → n < 2 ^ 32 → n < 2 ^ 64 = λ (n : ℕ) (small : n < 2 ^ 32). omega arith in
    let f = front_of prefix page in
    let g = front_of prefix other in
    let whole = append_cancel_right (((f ++ 45 ∷ decimal page.life) ++ 45 ∷ decimal page.call) ++ 45 ∷ decimal page.number) (((g ++ 45 ∷ decimal other.life) ++ 45 ∷ decimal other.call) ++ 45 ∷ decimal other.number) (codes ".pbm")
    (sym (by_dashes prefix page) ∙ same ∙ by_dashes prefix other) in
    let numbers = last_dash ((f ++ 45 ∷ decimal page.life) ++ 45 ∷ decimal page.call) (decimal page.number) ((g ++ 45 ∷ decimal other.life) ++ 45 ∷ decimal other.call) (decimal other.number)
    (no_dash_in_decimal page.number (fits page.number is.fits.number)) (no_dash_in_decimal other.number (fits other.number also.fits.number)) whole in
    let calls = last_dash (f ++ 45 ∷ decimal page.life) (decimal page.call) (g ++ 45 ∷ decimal other.life) (decimal other.call)
    (no_dash_in_decimal page.call (fits page.call is.fits.call)) (no_dash_in_decimal other.call (fits other.call also.fits.call)) numbers.0 in
    let lives = last_dash f (decimal page.life) g (decimal other.life)
    (no_dash_in_decimal page.life (fits page.life is.fits.life)) (no_dash_in_decimal other.life (fits other.life also.fits.life)) calls.0 in
    let number = decimal_injective page.number other.number (fits page.number is.fits.number) (fits other.number also.fits.number) numbers.1 in
    let call = decimal_injective page.call other.call (fits page.call is.fits.call) (fits other.call also.fits.call) calls.1 in
    let life = decimal_injective page.life other.life (fits page.life is.fits.life) (fits other.life also.fits.life) lives.1 in
    let line = same_line page other is also (same_front prefix page other lives.0) in
    cc
