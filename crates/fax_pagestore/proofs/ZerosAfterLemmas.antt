-- Zeros at the end of bits, in which no EOL ends.
use Rattle.std.proofs.Common.{◌≡◌, ℕ, zero, suc, ◌+◌, ◌-◌, ◌*◌, ◌≤◌, Bool, true, false, List, [], ◌∷◌, ◌++◌, length, take, drop, get_or, replicate, refl, sym, ◌∙◌, ap, subst, arith, append_assoc, length-append, length-drop, inl, inr}
use Rattle.std.proofs.lemmas.List.{drop_at, drop-drop, drop-append-le, take-append-drop, drop-replicate, replicate-append-replicate, get_or-drop, length-take-le}
use Rattle.std.proofs.lemmas.Bool.{cases_lt}
use Rattle.fax_bits.specs.Bits.{bits_of, word_bits}
use Rattle.fax_bits.proofs.BitsLemmas.{bits_of-nil, bits_of-cons, bits_of-append, length-bits_of, word_bits-zero}
use Rattle.fax_pagestore.specs.PageTexts.{end_of_line}
use Rattle.fax_pagestore.specs.Ends.{HoldsEol}
use Rattle.fax_pagestore.proofs.BeforeEolLemmas.{within}

-- no 1 stands among zeros
no_one : (n : ℕ) (rest : List Bool) → replicate n false ≡ true ∷ rest → ⊥
no_one zero rest e = absurd (cc e)
no_one (suc n) rest e = absurd (cc e)

-- the zeros after bits, from a place on that is not before the last of the bits
after_bits : (n : ℕ) (bits : List Bool) (k : ℕ) → length bits ≤ n → drop n (bits ++ replicate k false) ≡ replicate (k - (n - length bits)) false
after_bits n bits k le =
    let place : length bits + (n - length bits) ≡ n = omega arith in
    ap (λ m. drop m (bits ++ replicate k false)) (sym place) ∙ sym (drop-drop (n - length bits) (length bits) (bits ++ replicate k false))
    ∙ ap (drop (n - length bits)) (drop_at bits (replicate k false) (length bits) refl) ∙ drop-replicate (n - length bits) k false

-- zeros at the end make no EOL
pub HoldsEol-zeros : (bits : List Bool) (k : ℕ) → HoldsEol (bits ++ replicate k false) → HoldsEol bits
unfolding end_of_line
HoldsEol-zeros bits k (before, rest, e) =
    let zeros : List Bool = before ++ replicate 11 false in
    let front : List Bool = before ++ end_of_line in
    let eol : end_of_line ++ rest ≡ replicate 11 false ++ true ∷ rest = append_assoc (replicate 11 false) (true ∷ []) rest in
    let whole : bits ++ replicate k false ≡ zeros ++ true ∷ rest = e ∙ ap (λ b. before ++ b) eol ∙ sym (append_assoc before (replicate 11 false) (true ∷ rest)) in
    let other : bits ++ replicate k false ≡ front ++ rest = e ∙ sym (append_assoc before end_of_line rest) in
    let size : length zeros ≡ length before + 11 = length-append before (replicate 11 false) in
    let size_front : length front ≡ length before + 12 = length-append before end_of_line in
    elim (cases_lt (length zeros) (length bits)) [
      | inl inside ↦ (before, drop (length front) bits, within bits (replicate k false) front rest other (omega arith) ∙ append_assoc before end_of_line (drop (length front) bits))
      | inr past ↦ absurd (no_one (k - (length zeros - length bits)) rest
          (sym (after_bits (length zeros) bits k past) ∙ ap (drop (length zeros)) whole ∙ drop_at zeros (true ∷ rest) (length zeros) refl))
    ]

-- octets that are 0 are zeros
zeros_of : (octets : List ℕ) → ((i : ℕ) → get_or octets i 0 ≡ 0) → (k : ℕ) × (bits_of octets ≡ replicate k false)
zeros_of [] none = (0, bits_of-nil)
zeros_of (octet ∷ octets) none =
    let more = zeros_of octets (λ i. none (suc i)) in (
      8 + more.0,
      bits_of-cons octet octets ∙ ap (λ n. word_bits 8 n ++ bits_of octets) (none 0) ∙ ap (λ w. w ++ bits_of octets) (word_bits-zero 8)
          ∙ ap (λ b. replicate 8 false ++ b) more.1 ∙ replicate-append-replicate 8 more.0 false,
    )

-- Where octets are 0 from a place on, an EOL that stands in them stands in those before that place.
pub HoldsEol-before : (octets : List ℕ) (end n : ℕ) → end ≤ length octets → n ≤ 8 * end → ((i : ℕ) → end ≤ i → get_or octets i 0 ≡ 0)
    → HoldsEol (drop n (bits_of octets)) → HoldsEol (drop n (bits_of (take end octets)))
HoldsEol-before octets end n inside le none holds =
    let front : List ℕ = take end octets in
    let zeros = zeros_of (drop end octets) (λ i. get_or-drop end octets i 0 ∙ none (end + i) (omega arith)) in
    let size : length front ≡ end = length-take-le end octets inside in
    let split : bits_of octets ≡ bits_of front ++ replicate zeros.0 false =
    ap bits_of (sym (take-append-drop end octets)) ∙ bits_of-append front (drop end octets) ∙ ap (λ b. bits_of front ++ b) zeros.1 in
    let after : drop n (bits_of octets) ≡ drop n (bits_of front) ++ replicate zeros.0 false =
    ap (drop n) split ∙ drop-append-le n (bits_of front) (replicate zeros.0 false) (omega (arith, length-bits_of front)) in
    HoldsEol-zeros (drop n (bits_of front)) zeros.0 (subst HoldsEol after holds)

-- bits with an EOL are 12 at least
pub HoldsEol-twelve : (bits : List Bool) → HoldsEol bits → 12 ≤ length bits
unfolding end_of_line
HoldsEol-twelve bits (before, rest, e) = omega (arith, ap length e, length-append before (end_of_line ++ rest), length-append end_of_line rest)

-- where octets are 0 from a place on, no EOL stands from there on
pub no_eol_in_zeros : (octets : List ℕ) (end : ℕ) → end ≤ length octets → ((i : ℕ) → end ≤ i → get_or octets i 0 ≡ 0) → HoldsEol (drop (8 * end) (bits_of octets)) → ⊥
no_eol_in_zeros octets end inside none holds =
    let front = drop (8 * end) (bits_of (take end octets)) in
    let size : length (take end octets) ≡ end = length-take-le end octets inside in
    let twelve : 12 ≤ length front = HoldsEol-twelve front (HoldsEol-before octets end (8 * end) inside (omega arith) none holds) in
    omega (arith, twelve, length-drop (8 * end) (bits_of (take end octets)), length-bits_of (take end octets))
