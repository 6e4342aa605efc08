-- Bits are padded to octets.
use Rattle.std.proofs.Common.{◌≡◌, ◌∙◌, ℕ, ◌+◌, ◌*◌, ◌/◌, ◌%◌, ◌^◌, ◌==◌, Bool, true, false, List, [], ◌∷◌, ◌++◌, refl, ap, arith}
use Rattle.std.specs.Prelude.{replicate}
use Rattle.fax_bits.specs.Bits.{bit, bits_of, word_bits}
use Rattle.fax_bits.specs.Writing.{IsPadded}
use Rattle.fax_bits.proofs.BitsLemmas.{bits_of-cons, bits_of-nil, word_bits-add}

digit : Bool → ℕ
digit true = 1
digit false = 0

last_bit : (m : ℕ) (b : Bool) → word_bits 1 (2 * m + digit b) ≡ b ∷ []
unfolding word_bits bit digit
last_bit m true = let one : (2 * m + 1) / 2 ^ 0 % 2 ≡ 1 = omega arith in ap (λ (n : ℕ). (n == 1) ∷ []) one
last_bit m false = let none : (2 * m + 0) / 2 ^ 0 % 2 ≡ 0 = omega arith in ap (λ (n : ℕ). (n == 1) ∷ []) none

half : (m : ℕ) (b : Bool) → (2 * m + digit b) / 2 ^ 1 ≡ m
unfolding digit
half m true = let n : (2 * m + 1) / 2 ^ 1 ≡ m = omega arith in n
half m false = let n : (2 * m + 0) / 2 ^ 1 ≡ m = omega arith in n

-- one bit more after the others
more : (k m : ℕ) (b : Bool) (bits : List Bool) → word_bits k m ≡ bits → word_bits (k + 1) (2 * m + digit b) ≡ bits ++ b ∷ []
more k m b bits is =
    word_bits-add k 1 (2 * m + digit b) ∙ ap (λ (n : ℕ). word_bits k n ++ word_bits 1 (2 * m + digit b)) (half m b) ∙ ap (λ (l : List Bool). word_bits k m ++ l) (last_bit m b)
    ∙ ap (λ (l : List Bool). l ++ b ∷ []) is

none_first : word_bits 0 0 ≡ []
unfolding word_bits
none_first = refl

pub octet : (a b c d e f g h : Bool) → (o : ℕ) × (word_bits 8 o ≡ a ∷ b ∷ c ∷ d ∷ e ∷ f ∷ g ∷ h ∷ [])
octet a b c d e f g h =
    let n1 = 2 * 0 + digit a in
    let n2 = 2 * n1 + digit b in
    let n3 = 2 * n2 + digit c in
    let n4 = 2 * n3 + digit d in
    let n5 = 2 * n4 + digit e in
    let n6 = 2 * n5 + digit f in
    let n7 = 2 * n6 + digit g in (
      2 * n7 + digit h,
      more 7 n7 h (a ∷ b ∷ c ∷ d ∷ e ∷ f ∷ g ∷ []) (more 6 n6 g (a ∷ b ∷ c ∷ d ∷ e ∷ f ∷ []) (more 5 n5 f (a ∷ b ∷ c ∷ d ∷ e ∷ []) (more 4 n4 e (a ∷ b ∷ c ∷ d ∷ [])
          (more 3 n3 d (a ∷ b ∷ c ∷ []) (more 2 n2 c (a ∷ b ∷ []) (more 1 n1 b (a ∷ []) (more 0 0 a [] none_first))))))),
    )

one_octet : (o : ℕ) (bits : List Bool) → word_bits 8 o ≡ bits → bits_of (o ∷ []) ≡ bits ++ []
one_octet o bits is = bits_of-cons o [] ∙ ap (λ (l : List Bool). word_bits 8 o ++ l) bits_of-nil ∙ ap (λ (l : List Bool). l ++ []) is

pub bits_are_padded : (bits : List Bool) → (octets : List ℕ) × IsPadded octets bits
bits_are_padded [] = ([], (0, omega arith, bits_of-nil))
bits_are_padded (a ∷ []) = let o = octet a false false false false false false false in (o.0 ∷ [], (7, omega arith, one_octet o.0 _ o.1))
bits_are_padded (a ∷ b ∷ []) = let o = octet a b false false false false false false in (o.0 ∷ [], (6, omega arith, one_octet o.0 _ o.1))
bits_are_padded (a ∷ b ∷ c ∷ []) = let o = octet a b c false false false false false in (o.0 ∷ [], (5, omega arith, one_octet o.0 _ o.1))
bits_are_padded (a ∷ b ∷ c ∷ d ∷ []) = let o = octet a b c d false false false false in (o.0 ∷ [], (4, omega arith, one_octet o.0 _ o.1))
bits_are_padded (a ∷ b ∷ c ∷ d ∷ e ∷ []) = let o = octet a b c d e false false false in (o.0 ∷ [], (3, omega arith, one_octet o.0 _ o.1))
bits_are_padded (a ∷ b ∷ c ∷ d ∷ e ∷ f ∷ []) = let o = octet a b c d e f false false in (o.0 ∷ [], (2, omega arith, one_octet o.0 _ o.1))
bits_are_padded (a ∷ b ∷ c ∷ d ∷ e ∷ f ∷ g ∷ []) = let o = octet a b c d e f g false in (o.0 ∷ [], (1, omega arith, one_octet o.0 _ o.1))
bits_are_padded (a ∷ b ∷ c ∷ d ∷ e ∷ f ∷ g ∷ h ∷ bits) =
    let o = octet a b c d e f g h in
    let rest = bits_are_padded bits in (
      o.0 ∷ rest.0,
      (rest.1.0, rest.1.1, bits_of-cons o.0 rest.0 ∙ ap (λ (l : List Bool). word_bits 8 o.0 ++ l) rest.1.2 ∙ ap (λ (l : List Bool). l ++ (bits ++ replicate rest.1.0 false)) o.1),
    )
