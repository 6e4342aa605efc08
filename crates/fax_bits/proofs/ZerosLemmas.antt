-- Zeros that stand ahead.
use Rattle.std.proofs.Common.{◌≡◌, ℕ, zero, suc, ◌+◌, ◌-◌, ◌*◌, ◌/◌, ◌%◌, ◌^◌, ◌<◌, ◌≤◌, ◌==◌, Bool, true, false, List, [], ◌∷◌, ◌++◌, length, take, drop, replicate, min, refl, sym, ◌∙◌, ap, ap₂, arith, inl, inr, suc-add, zero-add, take_all, ◌⊎◌, length-append, length-drop}
use Rattle.std.proofs.lemmas.List.{take_at, drop_at, length-replicate, replicate-append-replicate}
use Rattle.std.proofs.lemmas.Bool.{cases_lt}
use Rattle.std.proofs.lemmas.Nat.{leading_top, shr_high}
use Rattle.std.specs.Int.Count.{count_leading_zeros, leading_of_zero}
use Rattle.std.proofs.Math.Nat.{pow-suc}
use Rattle.std.proofs.Math.Pow.{pow_mono}
use Rattle.fax_bits.specs.Bits.{bit, word_bits}
use Rattle.fax_bits.specs.Reading.{Place, Passes, padded}
use Rattle.fax_bits.proofs.BitsLemmas.{word_bits-add, word_bits-zero}
use Rattle.fax_bits.proofs.ReadingLemmas.{Passes-then}
use Rattle.fax_bits.proofs.WindowLemmas.{padded-suc-nil, padded-suc-cons, padded-le}

-- what a front of so many zeros and a 1 says of the list
pub zeros_then_one : (z m : ℕ) (bits more : List Bool) → padded (z + suc m) bits ≡ replicate z false ++ true ∷ more
    → (rest : List Bool) × (bits ≡ replicate z false ++ true ∷ rest)
zeros_then_one zero m [] more e =
    let start : false ∷ padded m [] ≡ true ∷ more = sym (padded-suc-nil m) ∙ ap (λ n. padded n []) (sym (zero-add (suc m))) ∙ e in
    absurd (cc)
zeros_then_one zero m (b ∷ bits) more e =
    let start : b ∷ padded m bits ≡ true ∷ more = sym (padded-suc-cons m b bits) ∙ ap (λ n. padded n (b ∷ bits)) (sym (zero-add (suc m))) ∙ e in
    let one : b ≡ true = cc in
    (bits, ap (λ (x : Bool). x ∷ bits) one)
zeros_then_one (suc z) m [] more e =
    let start : false ∷ padded (z + suc m) [] ≡ false ∷ (replicate z false ++ true ∷ more) = sym (padded-suc-nil (z + suc m)) ∙ ap (λ n. padded n []) (sym (suc-add z (suc m))) ∙ e in
    let rest : padded (z + suc m) [] ≡ replicate z false ++ true ∷ more = cc in
    let found = zeros_then_one z m [] more rest in
    absurd (nil_not z found.0 found.1)
  where
    nil_not : (z : ℕ) (rest : List Bool) → [] ≡ replicate z false ++ true ∷ rest → ⊥
    nil_not zero rest e = cc
    nil_not (suc z) rest e = cc
zeros_then_one (suc z) m (b ∷ bits) more e =
    let start : b ∷ padded (z + suc m) bits ≡ false ∷ (replicate z false ++ true ∷ more) = sym (padded-suc-cons (z + suc m) b bits) ∙ ap (λ n. padded n (b ∷ bits)) (sym (suc-add z (suc m))) ∙ e in
    let rest : padded (z + suc m) bits ≡ replicate z false ++ true ∷ more = cc in
    let none : b ≡ false = cc in
    let found = zeros_then_one z m bits more rest in
    (found.0, ap₂ (λ (x : Bool) (xs : List Bool). x ∷ xs) none found.1)

-- what a front of zeros alone says of the list
pub zeros_only : (n : ℕ) (bits : List Bool) → padded n bits ≡ replicate n false → take (min n (length bits)) bits ≡ replicate (min n (length bits)) false
zeros_only n bits e = elim (cases_lt (length bits) n) [
  | inl short ↦
      let size : min n (length bits) ≡ length bits = omega arith in
      rw size (take_all (length bits) bits (omega arith) ∙ all n bits (omega arith) e)
  | inr long ↦
      let size : min n (length bits) ≡ n = omega arith in
      rw size (sym (padded-le n bits long) ∙ e)
]
  where
    all : (n : ℕ) (bits : List Bool) → length bits ≤ n → padded n bits ≡ replicate n false → bits ≡ replicate (length bits) false
    all n [] le e = refl
    all zero (b ∷ bits) le e = absurd (omega arith)
    all (suc n) (b ∷ bits) le e =
        let start : b ∷ padded n bits ≡ false ∷ replicate n false = sym (padded-suc-cons n b bits) ∙ e in
        let none : b ≡ false = cc in
        let rest : padded n bits ≡ replicate n false = cc in
        ap₂ (λ (x : Bool) (xs : List Bool). x ∷ xs) none (all n bits (omega arith) rest)

-- the bits of a number whose highest 1 is bit j
pub word_bits-top : (n j a : ℕ) → 2 ^ j ≤ a → a < 2 ^ suc j → word_bits (n + suc j) a ≡ replicate n false ++ true ∷ word_bits j a
unfolding word_bits bit
word_bits-top n j a le lt =
    let one : a / 2 ^ j ≡ 1 = quotient in
    let none : a / 2 ^ suc j ≡ 0 = small in
    word_bits-add n (suc j) a ∙ ap₂ (λ (x y : List Bool). x ++ y) (ap (word_bits n) none ∙ word_bits-zero n) (ap (λ (q : ℕ). (q % 2 == 1) ∷ word_bits j a) one)
  where
    quotient : a / 2 ^ j ≡ 1
    quotient =
        let low : a - 2 ^ j < 2 ^ j = omega (arith, pow-suc 2 j) in
        let whole : 1 * 2 ^ j + (a - 2 ^ j) ≡ a = omega arith in
        ap (λ (x : ℕ). x / 2 ^ j) (sym whole) ∙ shr_high 1 j (a - 2 ^ j) low

    small : a / 2 ^ suc j ≡ 0
    small =
        let whole : 0 * 2 ^ suc j + a ≡ a = omega arith in
        ap (λ (x : ℕ). x / 2 ^ suc j) (sym whole) ∙ shr_high 0 (suc j) a lt

-- what a window says: the bits begin with its zeros and a 1, or it is 0 and only zeros are in it
pub record OneAhead (bits : List Bool) (w : ℕ) : Type 0 where
  pub rest : List Bool
  pub high : 8 ≤ count_leading_zeros 64 w
  pub few : count_leading_zeros 64 w - 8 < 56
  pub within : count_leading_zeros 64 w - 8 < length bits
  pub bits_are : bits ≡ replicate (count_leading_zeros 64 w - 8) false ++ true ∷ rest

pub record NoneAhead (bits : List Bool) (w : ℕ) : Type 0 where
  pub all : count_leading_zeros 64 w ≡ 64
  pub zeros : take (min 56 (length bits)) bits ≡ replicate (min 56 (length bits)) false

one_ahead : (w : ℕ) (bits : List Bool) → w < 2 ^ 56 → 0 < w → word_bits 56 w ≡ padded 56 bits → OneAhead bits w
one_ahead w bits lt some e =
    let top = leading_top 64 w some (omega arith) in
    let j : ℕ = top.0 in
    let size : count_leading_zeros 64 w + suc j ≡ 64 = top.1 in
    let small : j < 56 = below j (omega (arith, top.2)) in
    let z : ℕ = count_leading_zeros 64 w - 8 in
    let sum : z + suc j ≡ 56 = omega arith in
    let word : word_bits (z + suc j) w ≡ replicate z false ++ true ∷ word_bits j w = word_bits-top z j w top.2 top.3 in
    let front : padded (z + suc j) bits ≡ replicate z false ++ true ∷ word_bits j w = ap (λ (n : ℕ). padded n bits) sum ∙ sym e ∙ ap (λ (n : ℕ). word_bits n w) (sym sum) ∙ word in
    let found : (rest : List Bool) × (bits ≡ replicate z false ++ true ∷ rest) = zeros_then_one z j bits (word_bits j w) front in
    let long : length bits ≡ z + length (true ∷ found.0) = ap length found.1 ∙ length-append (replicate z false) (true ∷ found.0) ∙ ap (λ (n : ℕ). n + length (true ∷ found.0)) (length-replicate z false) in
    record { rest = found.0; high = omega arith; few = omega arith; within = omega arith; bits_are = found.1 }
  where
    below : (j : ℕ) → 2 ^ j < 2 ^ 56 → j < 56
    below j h = elim (cases_lt j 56) [
      | inl small ↦ small
      | inr large ↦ let more : 2 ^ 56 ≤ 2 ^ j = pow_mono large in absurd (omega arith)
    ]

none_ahead : (bits : List Bool) → word_bits 56 0 ≡ padded 56 bits → NoneAhead bits 0
none_ahead bits e = record { all = leading_of_zero 64; zeros = zeros_only 56 bits (sym e ∙ word_bits-zero 56) }

pub window_says : (w : ℕ) (bits : List Bool) → w < 2 ^ 56 → word_bits 56 w ≡ padded 56 bits → NoneAhead bits w ⊎ OneAhead bits w
window_says zero bits lt e = inl (none_ahead bits e)
window_says (suc w) bits lt e = inr (one_ahead (suc w) bits lt (omega arith) e)

-- the zeros ahead, as far as they are known
pub zeros_begin : (w n : ℕ) (bits : List Bool) → NoneAhead bits w ⊎ OneAhead bits w → n ≡ min (count_leading_zeros 64 w - 8) (min 56 (length bits)) → take n bits ≡ replicate n false
zeros_begin w n bits (inl none) e =
    let same : n ≡ min 56 (length bits) = omega (arith, none.all) in
    rw same none.zeros
zeros_begin w n bits (inr one) e =
    let same : n ≡ count_leading_zeros 64 w - 8 = omega (arith, one.few, one.within) in
    rw same (ap (take (count_leading_zeros 64 w - 8)) one.bits_are
    ∙ take_at (replicate (count_leading_zeros 64 w - 8) false) (true ∷ one.rest) (count_leading_zeros 64 w - 8) (length-replicate (count_leading_zeros 64 w - 8) false))

-- no zero stands after them
pub zeros_stop : (w n : ℕ) (bits : List Bool) → NoneAhead bits w ⊎ OneAhead bits w → n ≡ min (count_leading_zeros 64 w - 8) (min 56 (length bits)) → n < 56
    → (rest : List Bool) → drop n bits ≡ false ∷ rest → ⊥
zeros_stop w n bits (inl none) e lt rest h =
    let size : length (drop n bits) ≡ length bits - n = length-drop n bits in
    let some : length (drop n bits) ≡ length (false ∷ rest) = ap length h in
    absurd (omega (arith, none.all))
zeros_stop w n bits (inr one) e lt rest h =
    let same : n ≡ count_leading_zeros 64 w - 8 = omega (arith, one.few, one.within) in
    let there : drop n bits ≡ true ∷ one.rest = ap (λ (k : ℕ). drop k bits) same ∙ ap (drop (count_leading_zeros 64 w - 8)) one.bits_are
    ∙ drop_at (replicate (count_leading_zeros 64 w - 8) false) (true ∷ one.rest) (count_leading_zeros 64 w - 8) (length-replicate (count_leading_zeros 64 w - 8) false) in
    let clash : true ∷ one.rest ≡ false ∷ rest = sym there ∙ h in
    cc

pub high_zeros : (w : ℕ) (bits : List Bool) → NoneAhead bits w ⊎ OneAhead bits w → 8 ≤ count_leading_zeros 64 w
high_zeros w bits (inl none) = omega (arith, none.all)
high_zeros w bits (inr one) = one.high

-- more zeros passed after zeros
pub Passes-zeros : (a b c : Place) (text : List Bool) (n : ℕ) → Passes a b (replicate (b.passed - a.passed) false) → Passes b c text → text ≡ replicate n false
    → Passes a c (replicate (c.passed - a.passed) false)
Passes-zeros a b c text n p q e =
    let m : ℕ = b.passed - a.passed in
    let first : b.passed ≡ a.passed + m = p.place ∙ ap (λ (k : ℕ). a.passed + k) (length-replicate m false) in
    let second : c.passed ≡ b.passed + n = q.place ∙ ap (λ (t : List Bool). b.passed + length t) e ∙ ap (λ (k : ℕ). b.passed + k) (length-replicate n false) in
    let size : m + n ≡ c.passed - a.passed = omega arith in
    let joined : Passes a c (replicate m false ++ text) = Passes-then a b c (replicate m false) text p q in
    let zeros : replicate m false ++ text ≡ replicate (c.passed - a.passed) false = ap (λ (t : List Bool). replicate m false ++ t) e ∙ replicate-append-replicate m n false ∙ ap (λ (k : ℕ). replicate k false) size in
    rw zeros at joined
