-- Octets that hold bits.
use Rattle.std.proofs.Common.{◌≡◌, ℕ, zero, suc, ◌+◌, ◌-◌, ◌*◌, ◌/◌, ◌%◌, ◌^◌, ◌<◌, ◌≤◌, ◌==◌, Bool, true, false, cond, List, [], ◌∷◌, ◌++◌, length, take, drop, replicate, refl, sym, ◌∙◌, ap, arith, inl, inr, append_assoc, append-nil, length-append, length-drop}
use Rattle.std.proofs.lemmas.Bool.{cases_lt}
use Rattle.std.proofs.lemmas.List.{take-append-drop, length-take-le, length-replicate}
use Rattle.std.proofs.lemmas.Nat.{shr_high, mod_low}
use Rattle.std.proofs.Math.Nat.{pow-succ'}
use Rattle.fax_bits.specs.Bits.{bit, word_bits, bits_of}
use Rattle.fax_bits.specs.Writing.{IsPadded}
use Rattle.fax_bits.proofs.BitsLemmas.{word_bits-mod, bits_of-cons, bits_of-nil}

-- the number whose bits these are, the most significant first
number : List Bool → ℕ
number [] = 0
number (b ∷ bits) = cond b 1 0 * 2 ^ length bits + number bits

digit_is : (b : Bool) → (cond b 1 0 % 2 == 1) ≡ b
digit_is true = refl
digit_is false = refl

number_below : (bits : List Bool) → number bits < 2 ^ length bits
unfolding number
number_below [] = omega arith
number_below (true ∷ bits) = let rest : number bits < 2 ^ length bits = number_below bits in omega (arith, pow-succ' 2 (length bits))
number_below (false ∷ bits) = let rest : number bits < 2 ^ length bits = number_below bits in omega (arith, pow-succ' 2 (length bits))

word_of_number : (bits : List Bool) → word_bits (length bits) (number bits) ≡ bits
unfolding word_bits bit number
word_of_number [] = refl
word_of_number (b ∷ bits) =
    let k : ℕ = length bits in
    let n : ℕ = cond b 1 0 * 2 ^ k + number bits in
    let below : number bits < 2 ^ k = number_below bits in
    let high : n / 2 ^ k ≡ cond b 1 0 = shr_high (cond b 1 0) k (number bits) below in
    let low : n % 2 ^ k ≡ number bits = mod_low (cond b 1 0) k (number bits) below in
    let rest : word_bits k n ≡ bits = sym (word_bits-mod k k n (omega arith)) ∙ ap (word_bits k) low ∙ word_of_number bits in
    let first : (n / 2 ^ k % 2 == 1) ≡ b = ap (λ (m : ℕ). m % 2 == 1) high ∙ digit_is b in
    ap (λ (c : Bool). c ∷ word_bits k n) first ∙ ap (λ (bs : List Bool). b ∷ bs) rest

octet_of : (bits : List Bool) → length bits ≡ 8 → word_bits 8 (number bits) ≡ bits
octet_of bits size = ap (λ (k : ℕ). word_bits k (number bits)) (sym size) ∙ word_of_number bits

short_is_packed : (bits : List Bool) → length bits < 8 → (packed : List ℕ) × IsPadded packed bits
short_is_packed [] short = ([], (0, omega arith, bits_of-nil))
short_is_packed (b ∷ bits) short =
    let zeros : ℕ = 7 - length bits in
    let whole : List Bool = (b ∷ bits) ++ replicate zeros false in
    let size : length whole ≡ 8 = omega (arith, length-append (b ∷ bits) (replicate zeros false), length-replicate zeros false) in (
      number whole ∷ [],
      (zeros, omega arith, bits_of-cons (number whole) [] ∙ ap (λ (bs : List Bool). word_bits 8 (number whole) ++ bs) bits_of-nil ∙ append-nil (word_bits 8 (number whole)) ∙ octet_of whole size),
    )

-- any bits have octets that hold them
packed_within : (most : ℕ) (bits : List Bool) → length bits ≤ most → (packed : List ℕ) × IsPadded packed bits
packed_within zero bits few = short_is_packed bits (omega arith)
packed_within (suc most) bits few = elim (cases_lt (length bits) 8) [
  | inl short ↦ short_is_packed bits short
  | inr long ↦
      let first : List Bool = take 8 bits in
      let rest : (packed : List ℕ) × IsPadded packed (drop 8 bits) = packed_within most (drop 8 bits) (omega (arith, length-drop 8 bits)) in
      let octet : word_bits 8 (number first) ≡ first = octet_of first (length-take-le 8 bits long) in (
        number first ∷ rest.0,
        (
          rest.1.0,
          rest.1.1,
          bits_of-cons (number first) rest.0
              ∙ ap (λ (bs : List Bool). bs ++ bits_of rest.0) octet ∙ ap (λ (bs : List Bool). first ++ bs) rest.1.2
              ∙ sym (append_assoc first (drop 8 bits) (replicate rest.1.0 false))
              ∙ ap (λ (bs : List Bool). bs ++ replicate rest.1.0 false) (take-append-drop 8 bits),
        ),
      )
]

pub bits_are_packed : (bits : List Bool) → (packed : List ℕ) × IsPadded packed bits
bits_are_packed bits = packed_within (length bits) bits (omega arith)
