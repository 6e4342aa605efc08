-- JSON in ASCII.
use Rattle.std.proofs.Common.{◌≡◌, ◌∙◌, ℕ, ◌/◌, ◌%◌, ◌<◌, Bool, true, false, cond, ◌&&◌, ◌⊎◌, inl, inr, nat_le, List, [], ◌∷◌, ◌++◌, All, flat_map, map, refl, sym, ap, arith}
use Rattle.std.specs.Char.{digit_char}
use Rattle.std.specs.Char.Escape.{encode_utf16}
use Rattle.std.specs.Str.{chars}
use Rattle.std.proofs.lemmas.Bool.Decides.{nat_tests}
use Rattle.std.proofs.lemmas.List.Elements.{All-append, All-cons, All-nil, All-weaker}
use Rattle.json.specs.Print.{print}
use Rattle.fax_listing.specs.Jobs.{JobValue}
use Rattle.fax_listing.specs.Laws.{LinesAreOnlyShown}
use Rattle.fax_listing.specs.Lines.{job_line, job_tokens}
use Rattle.fax_listing.specs.Shown.{IsVisible, char_shown, shown, unit_shown}

same_list : (cs : List ℕ) → map (λ c. c) cs ≡ cs
same_list [] = refl
same_list (c ∷ cs) = ap (λ (l : List ℕ). c ∷ l) (same_list cs)

-- all characters of a text were written
pub all_shown : (text old new cs : List ℕ) → map (λ c. c) cs ≡ chars text → new ≡ old ++ flat_map char_shown cs → new ≡ old ++ shown text
unfolding shown
all_shown text old new cs all is = is ∙ ap (λ (l : List ℕ). old ++ flat_map char_shown l) (sym (same_list cs) ∙ all)

all_of : (f : ℕ → List ℕ) → ((x : ℕ) → All IsVisible (f x)) → (xs : List ℕ) → All IsVisible (flat_map f xs)
all_of f each [] = All-nil IsVisible
all_of f each (x ∷ xs) = All-append IsVisible (f x) (flat_map f xs) (each x) (all_of f each xs)

digit_cases : (d : ℕ) → d < 16 → IsVisible (digit_char d)
digit_cases d small = (grind (arith, nat_tests), grind (arith, nat_tests))

visible_digit : (n : ℕ) → IsVisible (digit_char (n % 16))
visible_digit n = digit_cases (n % 16) (omega arith)

six : (a b c d e f : ℕ) → IsVisible a → IsVisible b → IsVisible c → IsVisible d → IsVisible e → IsVisible f → All IsVisible (a ∷ b ∷ c ∷ d ∷ e ∷ f ∷ [])
six a b c d e f p q r s t u =
    All-cons IsVisible a (b ∷ c ∷ d ∷ e ∷ f ∷ []) p (All-cons IsVisible b (c ∷ d ∷ e ∷ f ∷ []) q (All-cons IsVisible c (d ∷ e ∷ f ∷ []) r
    (All-cons IsVisible d (e ∷ f ∷ []) s (All-cons IsVisible e (f ∷ []) t (All-cons IsVisible f [] u (All-nil IsVisible))))))

visible_unit : (unit : ℕ) → All IsVisible (unit_shown unit)
visible_unit unit =
    six 92 117 (digit_char (unit / 4096 % 16)) (digit_char (unit / 256 % 16)) (digit_char (unit / 16 % 16)) (digit_char (unit % 16)) (omega arith, omega arith) (omega arith, omega arith)
    (visible_digit (unit / 4096)) (visible_digit (unit / 256)) (visible_digit (unit / 16)) (visible_digit unit)

visible_char : (c : ℕ) (is_plain : Bool) → (nat_le 32 c && nat_le c 126) ≡ is_plain → All IsVisible (cond is_plain (c ∷ []) (flat_map unit_shown (encode_utf16 c)))
visible_char c true plain = All-cons IsVisible c [] (grind (arith, nat_tests), grind (arith, nat_tests)) (All-nil IsVisible)
visible_char c false plain = all_of unit_shown visible_unit (encode_utf16 c)

visible_text : (text : List ℕ) → All IsVisible (shown text)
unfolding shown
visible_text text = all_of char_shown (λ (c : ℕ). visible_char c (nat_le 32 c && nat_le c 126) refl) (chars text)

abbrev IsOfLines : ℕ → Type 0
IsOfLines octet = IsVisible octet ⊎ (octet ≡ 10)

visible_line : (job : JobValue) → All IsOfLines (job_line job)
visible_line job =
    let text : List ℕ = shown (print (job_tokens job)) in
    All-append IsOfLines text (10 ∷ []) (All-weaker IsVisible IsOfLines (λ (x : ℕ) (v : IsVisible x). inl v) text (visible_text (print (job_tokens job)))) (All-cons IsOfLines 10 [] (inr refl) (All-nil IsOfLines))

pub lines_are_only_shown : LinesAreOnlyShown
lines_are_only_shown [] = All-nil IsOfLines
lines_are_only_shown (job ∷ jobs) = All-append IsOfLines (job_line job) (flat_map job_line jobs) (visible_line job) (lines_are_only_shown jobs)
