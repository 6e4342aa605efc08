-- Laws of `word_bits` and `bits_of`.
use Rattle.std.proofs.Common.{◌≡◌, ℕ, zero, suc, ◌+◌, ◌-◌, ◌*◌, ◌/◌, ◌%◌, ◌^◌, ◌<◌, ◌≤◌, ◌==◌, Bool, true, false, List, [], ◌∷◌, ◌++◌, length, take, drop, get_or, refl, sym, ◌∙◌, ap, ap₂, arith, append_assoc, length-append, length-drop, inl, inr, zero-add, suc-add, add_comm, replicate, bit_and, bit_or}
use Rattle.std.proofs.lemmas.List.{take_at, drop_at, append-nil, take-append-le, drop-append-le, take-append-drop, length-take-le, get_or_append_left, get_or-append_right}
use Rattle.std.proofs.lemmas.List.Concat.{flat_map-append}
use Rattle.std.proofs.lemmas.Bool.{eqb-true, eq-eqb, cases_lt}
use Rattle.std.proofs.lemmas.Nat.{shr-shr, field_of, shr_split, shl-shr, one_shl, and_mask, shl_below, or_shifted, shr_high, mod_low, pow_below, mod_below}
use Rattle.std.proofs.lemmas.Nat.Bits.{bit_at-lt, bit_at_cat_low, same_from_bits_below}
use Rattle.std.specs.Int.{bit_at}
use Rattle.std.proofs.Math.Nat.{zero-div, mul-mod_left, mod-eq_of_lt}
use Rattle.std.specs.Int.{to_be_bytes, w32}
use Rattle.fax_bits.specs.Bits.{bit, word_bits, bits_of}

-- ---- bits
pub bit-add : (n j k : ℕ) → bit n (j + k) ≡ bit (n / 2 ^ k) j
unfolding bit
bit-add n j k = rw (shr-shr n k j, add_comm k j) refl

-- the bits below m are those of the remainder
pub bit-mod : (n m i : ℕ) → i < m → bit (n % 2 ^ m) i ≡ bit n i
unfolding bit
bit-mod n m i h =
    let split : bit_at (n / 2 ^ m * 2 ^ m + n % 2 ^ m) i ≡ bit_at (n % 2 ^ m) i = bit_at_cat_low (n / 2 ^ m) m (n % 2 ^ m) i h in
    let whole : n / 2 ^ m * 2 ^ m + n % 2 ^ m ≡ n = shr_split n m in
    ap (λ b. b == 1) (sym split ∙ ap (λ x. bit_at x i) whole)

-- ---- words
pub length-word_bits : (k n : ℕ) → length (word_bits k n) ≡ k
unfolding word_bits
length-word_bits zero n = refl
length-word_bits (suc k) n = ap suc (length-word_bits k n)

-- the bits above the low k, and then the low k
pub word_bits-add : (j k n : ℕ) → word_bits (j + k) n ≡ word_bits j (n / 2 ^ k) ++ word_bits k n
unfolding word_bits
word_bits-add zero k n = rw zero-add refl
word_bits-add (suc j) k n = rw (suc-add, bit-add, word_bits-add j k n) refl

-- the low k bits of a remainder
pub word_bits-mod : (k m n : ℕ) → k ≤ m → word_bits k (n % 2 ^ m) ≡ word_bits k n
unfolding word_bits
word_bits-mod zero m n h = refl
word_bits-mod (suc k) m n h =
    let below : k < m = omega arith in
    rw (bit-mod n m k below, word_bits-mod k m n (omega arith)) refl

-- n bits after the first r, of a word of r + n + k bits
pub word_bits_inside : (r n k x : ℕ) → take n (drop r (word_bits (r + (n + k)) x)) ≡ word_bits n (x / 2 ^ k)
word_bits_inside r n k x =
    let high : List Bool = word_bits r (x / 2 ^ (n + k)) in
    let mid : List Bool = word_bits n (x / 2 ^ k) in
    rw (word_bits-add r (n + k) x, word_bits-add n k x, drop_at high (mid ++ word_bits k x) r (length-word_bits r (x / 2 ^ (n + k))))
    (take_at mid (word_bits k x) n (length-word_bits n (x / 2 ^ k)))

bit_same : (a b : ℕ) → a < 2 → b < 2 → (a == 1) ≡ (b == 1) → a ≡ b
bit_same a b p q e = elim (cases_lt a 1) [
  | inl low ↦ elim (cases_lt b 1) [
    | inl low2 ↦ omega arith
    | inr high ↦
        let one : b ≡ 1 = omega arith in
        let t : (a == 1) ≡ true = e ∙ eq-eqb b 1 one in
        eqb-true a 1 t ∙ sym one
  ]
  | inr high ↦
      let one : a ≡ 1 = omega arith in
      let t : (b == 1) ≡ true = sym e ∙ eq-eqb a 1 one in
      one ∙ sym (eqb-true b 1 t)
]

same_bits_below : (w a b : ℕ) → word_bits w a ≡ word_bits w b → (i : ℕ) → i < w → bit a i ≡ bit b i
unfolding word_bits
same_bits_below zero a b e i h = absurd (omega arith)
same_bits_below (suc w) a b e i h =
    let heads : bit a w ≡ bit b w = cc in
    let tails : word_bits w a ≡ word_bits w b = cc in
    elim (cases_lt i w) [
      | inl below ↦ same_bits_below w a b tails i below
      | inr top ↦ let same : i ≡ w = omega arith in rw same heads
    ]

-- a word says its number
pub word_bits_same : (w a b : ℕ) → a < 2 ^ w → b < 2 ^ w → word_bits w a ≡ word_bits w b → a ≡ b
unfolding bit
word_bits_same w a b p q e =
    same_from_bits_below w a b p q (λ i h. bit_same (bit_at a i) (bit_at b i) (bit_at-lt a i) (bit_at-lt b i) (same_bits_below w a b e i h))

-- ---- octets
pub bits_of-cons : (o : ℕ) (os : List ℕ) → bits_of (o ∷ os) ≡ word_bits 8 o ++ bits_of os
unfolding bits_of
bits_of-cons o os = refl

pub bits_of-nil : bits_of [] ≡ []
unfolding bits_of
bits_of-nil = refl

pub length-bits_of : (octets : List ℕ) → length (bits_of octets) ≡ 8 * length octets
length-bits_of [] = rw bits_of-nil refl
length-bits_of (o ∷ os) =
    let rest : length (bits_of os) ≡ 8 * length os = length-bits_of os in
    rw (bits_of-cons o os, length-append, length-word_bits 8 o) (omega arith)

pub bits_of-append : (a b : List ℕ) → bits_of (a ++ b) ≡ bits_of a ++ bits_of b
unfolding bits_of
bits_of-append a b = flat_map-append (word_bits 8) a b

-- whole octets passed
pub drop-bits_of : (i : ℕ) (octets : List ℕ) → i ≤ length octets → drop (8 * i) (bits_of octets) ≡ bits_of (drop i octets)
drop-bits_of i octets h =
    let parts : bits_of octets ≡ bits_of (take i octets) ++ bits_of (drop i octets) = ap bits_of (sym (take-append-drop i octets)) ∙ bits_of-append (take i octets) (drop i octets) in
    let size : length (bits_of (take i octets)) ≡ 8 * i = length-bits_of (take i octets) ∙ ap (λ n. 8 * n) (length-take-le i octets h) in
    rw parts (drop_at (bits_of (take i octets)) (bits_of (drop i octets)) (8 * i) size)

pub take-bits_of : (i : ℕ) (octets : List ℕ) → i ≤ length octets → take (8 * i) (bits_of octets) ≡ bits_of (take i octets)
take-bits_of i octets h =
    let parts : bits_of octets ≡ bits_of (take i octets) ++ bits_of (drop i octets) = ap bits_of (sym (take-append-drop i octets)) ∙ bits_of-append (take i octets) (drop i octets) in
    let size : length (bits_of (take i octets)) ≡ 8 * i = length-bits_of (take i octets) ∙ ap (λ n. 8 * n) (length-take-le i octets h) in
    rw parts (take_at (bits_of (take i octets)) (bits_of (drop i octets)) (8 * i) size)

-- ---- four octets as one number
pub word_of_four : (a b c d : ℕ) → b < 256 → c < 256 → d < 256
    → word_bits 32 (16777216 * a + 65536 * b + 256 * c + d) ≡ word_bits 8 a ++ (word_bits 8 b ++ (word_bits 8 c ++ word_bits 8 d))
word_of_four a b c d hb hc hd =
    let n : ℕ = 16777216 * a + 65536 * b + 256 * c + d in
    let n1 : ℕ = 65536 * a + 256 * b + c in
    let n2 : ℕ = 256 * a + b in
    let first : word_bits 32 n ≡ word_bits 24 (n / 2 ^ 8) ++ word_bits 8 n = word_bits-add 24 8 n in
    let e1 : n / 2 ^ 8 ≡ n1 = omega arith in
    let second : word_bits 24 n1 ≡ word_bits 16 (n1 / 2 ^ 8) ++ word_bits 8 n1 = word_bits-add 16 8 n1 in
    let e2 : n1 / 2 ^ 8 ≡ n2 = omega arith in
    let third : word_bits 16 n2 ≡ word_bits 8 (n2 / 2 ^ 8) ++ word_bits 8 n2 = word_bits-add 8 8 n2 in
    let e3 : n2 / 2 ^ 8 ≡ a = omega arith in
    let m0 : n % 2 ^ 8 ≡ d = omega arith in
    let m1 : n1 % 2 ^ 8 ≡ c = omega arith in
    let m2 : n2 % 2 ^ 8 ≡ b = omega arith in
    let w0 : word_bits 8 n ≡ word_bits 8 d = sym (word_bits-mod 8 8 n (omega arith)) ∙ ap (word_bits 8) m0 in
    let w1 : word_bits 8 n1 ≡ word_bits 8 c = sym (word_bits-mod 8 8 n1 (omega arith)) ∙ ap (word_bits 8) m1 in
    let w2 : word_bits 8 n2 ≡ word_bits 8 b = sym (word_bits-mod 8 8 n2 (omega arith)) ∙ ap (word_bits 8) m2 in
    first ∙ ap (λ x. word_bits 24 x ++ word_bits 8 n) e1 ∙ ap (λ x. x ++ word_bits 8 n) (second ∙ ap (λ x. word_bits 16 x ++ word_bits 8 n1) e2 ∙ ap (λ x. x ++ word_bits 8 n1) (third ∙ ap (λ x. word_bits 8 x ++ word_bits 8 n2) e3))
    ∙ rw (w0, w1, w2) (simp append_assoc)

-- n bits after the first r of 32, as shifts give them
pub shifted_inside : (x r n k : ℕ) → r + (n + k) ≡ 32 → word_bits n (x * 2 ^ r % 4294967296 / 2 ^ (32 - n)) ≡ take n (drop r (word_bits 32 x))
shifted_inside x r n k e =
    let low : 32 - n ≡ r + k = omega arith in
    let whole : n + (32 - n) ≡ 32 = omega arith in
    let field : x * 2 ^ r % 2 ^ (n + (32 - n)) / 2 ^ (32 - n) ≡ x * 2 ^ r / 2 ^ (32 - n) % 2 ^ n = field_of (x * 2 ^ r) n (32 - n) in
    let field32 : x * 2 ^ r % 4294967296 / 2 ^ (32 - n) ≡ x * 2 ^ r / 2 ^ (32 - n) % 2 ^ n = rw whole at field in
    let back : x * 2 ^ r / 2 ^ (r + k) ≡ x / 2 ^ k = sym (shr-shr (x * 2 ^ r) r k) ∙ ap (λ y. y / 2 ^ k) (shl-shr x r) in
    let same : x * 2 ^ r / 2 ^ (32 - n) ≡ x / 2 ^ k = ap (λ m. x * 2 ^ r / 2 ^ m) low ∙ back in
    let inside : take n (drop r (word_bits (r + (n + k)) x)) ≡ word_bits n (x / 2 ^ k) = word_bits_inside r n k x in
    ap (word_bits n) field32 ∙ word_bits-mod n n (x * 2 ^ r / 2 ^ (32 - n)) (omega arith) ∙ ap (word_bits n) same ∙ sym (rw e at inside)

-- what is read from a list does not change with what follows
pub take-drop-append : {A : Type 0} → (n r : ℕ) (xs ys : List A) → r + n ≤ length xs → take n (drop r (xs ++ ys)) ≡ take n (drop r xs)
take-drop-append n r xs ys h =
    let inner : drop r (xs ++ ys) ≡ drop r xs ++ ys = drop-append-le r xs ys (omega arith) in
    let room : n ≤ length (drop r xs) = rw length-drop (omega arith) in
    rw inner (take-append-le n (drop r xs) ys room)

-- the first bits of octets, as the number of the first four says them
pub word_of_front : (octets : List ℕ) (r n : ℕ) → ((i : ℕ) → get_or octets i 0 < 256) → r + n ≤ 32 → r + n ≤ 8 * length octets
    → take n (drop r (word_bits 32 (16777216 * get_or octets 0 0 + 65536 * get_or octets 1 0 + 256 * get_or octets 2 0 + get_or octets 3 0))) ≡ take n (drop r (bits_of octets))
word_of_front [] r n fits h l = let none : n ≡ 0 = omega arith in rw none refl
word_of_front (a ∷ []) r n fits h l =
    rw (word_of_four a 0 0 0 (omega arith) (omega arith) (omega arith), bits_of-cons a [], bits_of-nil, append-nil)
    (take-drop-append n r (word_bits 8 a) _ (rw length-word_bits (omega arith)))
word_of_front (a ∷ b ∷ []) r n fits h l =
    let hb : b < 256 = fits 1 in
    rw (word_of_four a b 0 0 hb (omega arith) (omega arith), bits_of-cons a (b ∷ []), bits_of-cons b [], bits_of-nil, append-nil, ← append_assoc)
    (take-drop-append n r (word_bits 8 a ++ word_bits 8 b) _ (simp (length-append, length-word_bits) (omega arith)))
word_of_front (a ∷ b ∷ c ∷ []) r n fits h l =
    let hb : b < 256 = fits 1 in
    let hc : c < 256 = fits 2 in
    let front : List Bool = word_bits 8 a ++ (word_bits 8 b ++ word_bits 8 c) in
    let whole : word_bits 32 (16777216 * a + 65536 * b + 256 * c + 0) ≡ front ++ word_bits 8 0 = word_of_four a b c 0 hb hc (omega arith) ∙ simp append_assoc in
    let bits : bits_of (a ∷ b ∷ c ∷ []) ≡ front = rw (bits_of-cons a (b ∷ c ∷ []), bits_of-cons b (c ∷ []), bits_of-cons c [], bits_of-nil, append-nil) refl in
    let size : length front ≡ 24 = simp (length-append, length-word_bits) refl in
    rw (whole, bits) (take-drop-append n r front (word_bits 8 0) (omega arith))
word_of_front (a ∷ b ∷ c ∷ d ∷ more) r n fits h l =
    let hb : b < 256 = fits 1 in
    let hc : c < 256 = fits 2 in
    let hd : d < 256 = fits 3 in
    let front : List Bool = word_bits 8 a ++ (word_bits 8 b ++ (word_bits 8 c ++ word_bits 8 d)) in
    let whole : word_bits 32 (16777216 * a + 65536 * b + 256 * c + d) ≡ front = word_of_four a b c d hb hc hd in
    let bits : bits_of (a ∷ b ∷ c ∷ d ∷ more) ≡ front ++ bits_of more = rw (bits_of-cons a (b ∷ c ∷ d ∷ more), bits_of-cons b (c ∷ d ∷ more), bits_of-cons c (d ∷ more), bits_of-cons d more) (simp append_assoc) in
    let size : length front ≡ 32 = simp (length-append, length-word_bits) refl in
    rw (whole, bits) (sym (take-drop-append n r front (bits_of more) (omega arith)))

-- ---- a word moved to the left
pub word_bits-zero : (k : ℕ) → word_bits k 0 ≡ replicate k false
unfolding word_bits bit
word_bits-zero zero = refl
word_bits-zero (suc k) =
    let head : (0 / 2 ^ k % 2 == 1) ≡ false = rw (zero-div (2 ^ k)) refl in
    rw (head, word_bits-zero k) refl

pub word_bits-shl : (n k x : ℕ) → word_bits (n + k) (x * 2 ^ k) ≡ word_bits n x ++ replicate k false
word_bits-shl n k x =
    let high : x * 2 ^ k / 2 ^ k ≡ x = shl-shr x k in
    let low : x * 2 ^ k % 2 ^ k ≡ 0 = mul-mod_left x (2 ^ k) in
    word_bits-add n k (x * 2 ^ k) ∙ ap (λ m. word_bits n m ++ word_bits k (x * 2 ^ k)) high
    ∙ ap (λ b. word_bits n x ++ b) (sym (word_bits-mod k k (x * 2 ^ k) (omega arith)) ∙ ap (word_bits k) low ∙ word_bits-zero k)

-- ---- writing
-- a word masked to its low n bits
pub low_bits_mask : (n x : ℕ) → n < 32 → word_bits n (bit_and x (1 * 2 ^ n % 4294967296 - 1)) ≡ word_bits n x
low_bits_mask n x lt =
    let one : 1 * 2 ^ n % 2 ^ 32 ≡ 2 ^ n = one_shl n 32 lt in
    ap (λ m. word_bits n (bit_and x (m - 1))) one ∙ ap (word_bits n) (and_mask x n) ∙ word_bits-mod n n x (omega arith)

-- bits put after others
pub word_bits-joined : (k n a b : ℕ) → n ≤ 24 → a < 2 ^ 7 → b < 2 ^ n → word_bits (k + n) (bit_or (a * 2 ^ n % 4294967296) b) ≡ word_bits k a ++ word_bits n b
word_bits-joined k n a b le la lb =
    let small : a * 2 ^ n < 2 ^ (7 + n) = shl_below a 7 n la in
    let wide : 2 ^ (7 + n) < 2 ^ 32 = pow_below (7 + n) 32 (omega arith) in
    let whole : a * 2 ^ n % 4294967296 ≡ a * 2 ^ n = mod-eq_of_lt (omega arith) in
    let sum : bit_or (a * 2 ^ n % 4294967296) b ≡ a * 2 ^ n + b = ap (λ m. bit_or m b) whole ∙ or_shifted a n b lb in
    let high : (a * 2 ^ n + b) / 2 ^ n ≡ a = shr_high a n b lb in
    let low : (a * 2 ^ n + b) % 2 ^ n ≡ b = mod_low a n b lb in
    ap (word_bits (k + n)) sum ∙ word_bits-add k n (a * 2 ^ n + b) ∙ ap (λ m. word_bits k m ++ word_bits n (a * 2 ^ n + b)) high
    ∙ ap (λ bs. word_bits k a ++ bs) (sym (word_bits-mod n n (a * 2 ^ n + b) (omega arith)) ∙ ap (word_bits n) low)

-- the whole octets of a word moved to the top of 32 bits, and the bits after them
pub word_bits-octets : (total x : ℕ) → total ≤ 32 → take (8 * (total / 8)) (word_bits 32 (x * 2 ^ (32 - total) % 4294967296)) ++ word_bits (total % 8) x ≡ word_bits total x
word_bits-octets total x le =
    let m : ℕ = 8 * (total / 8) in
    let r : ℕ = total % 8 in
    let parts : m + r ≡ total = omega arith in
    let whole : total + (32 - total) ≡ 32 = omega arith in
    let top : word_bits (total + (32 - total)) (x * 2 ^ (32 - total)) ≡ word_bits total x ++ replicate (32 - total) false = word_bits-shl total (32 - total) x in
    let top32 : word_bits 32 (x * 2 ^ (32 - total) % 4294967296) ≡ word_bits total x ++ replicate (32 - total) false = word_bits-mod 32 32 (x * 2 ^ (32 - total)) (omega arith) ∙ (rw whole at top) in
    let split : word_bits (m + r) x ≡ word_bits m (x / 2 ^ r) ++ word_bits r x = word_bits-add m r x in
    let split_total : word_bits total x ≡ word_bits m (x / 2 ^ r) ++ word_bits r x = rw parts at split in
    let front : take m (word_bits 32 (x * 2 ^ (32 - total) % 4294967296)) ≡ word_bits m (x / 2 ^ r) =
    ap (take m) (top32 ∙ ap (λ b. b ++ replicate (32 - total) false) split_total ∙ append_assoc (word_bits m (x / 2 ^ r)) (word_bits r x) (replicate (32 - total) false))
    ∙ take_at (word_bits m (x / 2 ^ r)) (word_bits r x ++ replicate (32 - total) false) m (length-word_bits m (x / 2 ^ r)) in
    ap (λ b. b ++ word_bits r x) front ∙ sym split_total

-- the octets of a number of 32 bits
pub bits_of-be : (x : ℕ) → x < 2 ^ 32 → bits_of (to_be_bytes w32 x) ≡ word_bits 32 x
bits_of-be x lt =
    let a : ℕ = x / 16777216 % 256 in
    let b : ℕ = x / 65536 % 256 in
    let c : ℕ = x / 256 % 256 in
    let d : ℕ = x % 256 in
    let sum : 16777216 * a + 65536 * b + 256 * c + d ≡ x = omega arith in
    let four : word_bits 32 (16777216 * a + 65536 * b + 256 * c + d) ≡ word_bits 8 a ++ (word_bits 8 b ++ (word_bits 8 c ++ word_bits 8 d)) = word_of_four a b c d (omega arith) (omega arith) (omega arith) in
    let bits : bits_of (a ∷ b ∷ c ∷ d ∷ []) ≡ word_bits 8 a ++ (word_bits 8 b ++ (word_bits 8 c ++ word_bits 8 d)) =
    rw (bits_of-cons a (b ∷ c ∷ d ∷ []), bits_of-cons b (c ∷ d ∷ []), bits_of-cons c (d ∷ []), bits_of-cons d [], bits_of-nil, append-nil) refl in
    bits ∙ sym four ∙ ap (word_bits 32) sum

-- octets and a rest of fewer than 8 bits, with the bits of a word of at most 32 after them
pub bits_of-put : (items octets : List ℕ) (total all low : ℕ) → total ≤ 32 → octets ≡ to_be_bytes w32 (all * 2 ^ (32 - total) % 4294967296) → word_bits (total % 8) low ≡ word_bits (total % 8) all
    → bits_of (items ++ take (total / 8) octets) ++ word_bits (total % 8) low ≡ bits_of items ++ word_bits total all
bits_of-put items octets total all low le e same =
    let below : all * 2 ^ (32 - total) % 4294967296 < 2 ^ 32 = mod_below (all * 2 ^ (32 - total)) 4294967296 (omega arith) in
    let bits : bits_of octets ≡ word_bits 32 (all * 2 ^ (32 - total) % 4294967296) = ap bits_of e ∙ bits_of-be (all * 2 ^ (32 - total) % 4294967296) below in
    let size : length octets ≡ 4 = ap length e in
    let front : bits_of (take (total / 8) octets) ≡ take (8 * (total / 8)) (word_bits 32 (all * 2 ^ (32 - total) % 4294967296)) = sym (take-bits_of (total / 8) octets (omega arith)) ∙ ap (take (8 * (total / 8))) bits in
    ap (λ b. b ++ word_bits (total % 8) low) (bits_of-append items (take (total / 8) octets)) ∙ append_assoc (bits_of items) (bits_of (take (total / 8) octets)) (word_bits (total % 8) low)
    ∙ ap (λ b. bits_of items ++ b) (ap₂ (λ (a b : List Bool). a ++ b) front same ∙ word_bits-octets total all le)

-- a rest of fewer than 8 bits, made an octet
pub bits_of-rest : (items : List ℕ) (count pending : ℕ) → count ≤ 8 → pending < 2 ^ count
    → bits_of (items ++ pending * 2 ^ (8 - count) % 4294967296 ∷ []) ≡ (bits_of items ++ word_bits count pending) ++ replicate (8 - count) false
bits_of-rest items count pending le lt =
    let whole : count + (8 - count) ≡ 8 = omega arith in
    let top : word_bits (count + (8 - count)) (pending * 2 ^ (8 - count)) ≡ word_bits count pending ++ replicate (8 - count) false = word_bits-shl count (8 - count) pending in
    let octet : word_bits 8 (pending * 2 ^ (8 - count) % 4294967296) ≡ word_bits count pending ++ replicate (8 - count) false = word_bits-mod 8 32 (pending * 2 ^ (8 - count)) (omega arith) ∙ (rw whole at top) in
    bits_of-append items (pending * 2 ^ (8 - count) % 4294967296 ∷ []) ∙ ap (λ b. bits_of items ++ b) (rw (bits_of-cons (pending * 2 ^ (8 - count) % 4294967296) [], bits_of-nil, append-nil) octet)
    ∙ sym (append_assoc (bits_of items) (word_bits count pending) (replicate (8 - count) false))

pub rest_below : (count pending : ℕ) → count ≤ 8 → pending < 2 ^ count → pending * 2 ^ (8 - count) % 4294967296 < 256
rest_below count pending le lt =
    let whole : count + (8 - count) ≡ 8 = omega arith in
    let below : pending * 2 ^ (8 - count) < 2 ^ (count + (8 - count)) = shl_below pending count (8 - count) lt in
    let below8 : pending * 2 ^ (8 - count) < 2 ^ 8 = rw whole at below in
    omega arith

-- ---- bit i is bit 7 - i mod 8 of octet i div 8
word_bits_at : (k n i : ℕ) → i < k → get_or (word_bits k n) i false ≡ bit n (k - 1 - i)
unfolding word_bits
word_bits_at zero n i lt = absurd (omega arith)
word_bits_at (suc k) n zero lt = ap (bit n) (omega arith)
word_bits_at (suc k) n (suc i) lt =
    let place : k - 1 - i ≡ suc k - 1 - suc i = omega arith in
    word_bits_at k n i (omega arith) ∙ ap (bit n) place

pub bits_of_at : (octets : List ℕ) (i : ℕ) → i < 8 * length octets → get_or (bits_of octets) i false ≡ bit (get_or octets (i / 8) 0) (7 - i % 8)
bits_of_at [] i lt = absurd (omega arith)
bits_of_at (o ∷ os) i lt = elim (cases_lt i 8) [
  | inl inside ↦
      let first : i / 8 ≡ 0 = omega arith in
      let place : 8 - 1 - i ≡ 7 - i % 8 = omega arith in
      rw (bits_of-cons o os, first, get_or_append_left (word_bits 8 o) (bits_of os) false i (omega (arith, length-word_bits 8 o)))
      (word_bits_at 8 o i inside ∙ ap (bit o) place)
  | inr past ↦
      let later : i / 8 ≡ suc ((i - 8) / 8) = omega arith in
      let place : 7 - (i - 8) % 8 ≡ 7 - i % 8 = omega arith in
      rw (bits_of-cons o os, later, get_or-append_right (word_bits 8 o) (bits_of os) 8 i false (length-word_bits 8 o) past)
      (bits_of_at os (i - 8) (omega arith) ∙ ap (bit (get_or os ((i - 8) / 8) 0)) place)
]
