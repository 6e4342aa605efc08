-- The next bits as one number, with zeros past the end.
use Rattle.std.proofs.Common.{◌≡◌, ℕ, zero, suc, ◌+◌, ◌-◌, ◌*◌, ◌/◌, ◌%◌, ◌^◌, ◌<◌, ◌≤◌, Bool, false, List, [], ◌∷◌, ◌++◌, length, take, drop, get_or, refl, sym, ◌∙◌, ap, ap₂, arith, inl, inr, min, take_all, zero-add, suc-add, replicate}
use Rattle.std.proofs.lemmas.List.{take_at, append-nil, drop_at, drop-append-le}
use Rattle.std.proofs.lemmas.Bool.{cases_lt}
use Rattle.std.proofs.lemmas.Nat.{shr-shr, pow-add, field_of, shl-shr, shr_high, mod_low, shl_below}
use Rattle.std.proofs.Math.Nat.{mul-le-mul_right}
use Rattle.fax_bits.specs.Bits.{word_bits, bits_of}
use Rattle.fax_bits.specs.Reading.{padded}
use Rattle.fax_bits.proofs.BitsLemmas.{word_bits-add, word_bits-mod, word_bits-shl, word_bits-zero, word_bits_inside, length-word_bits, bits_of-cons, bits_of-nil}

-- ---- padding
pub padded-zero : (bits : List Bool) → padded 0 bits ≡ []
unfolding padded
padded-zero bits = refl

pub padded-suc-nil : (n : ℕ) → padded (suc n) [] ≡ false ∷ padded n []
unfolding padded
padded-suc-nil n = refl

pub padded-suc-cons : (n : ℕ) (b : Bool) (bits : List Bool) → padded (suc n) (b ∷ bits) ≡ b ∷ padded n bits
unfolding padded
padded-suc-cons n b bits = refl

pub padded-nil : (n : ℕ) → padded n [] ≡ replicate n false
padded-nil zero = padded-zero []
padded-nil (suc n) = rw (padded-suc-nil n, padded-nil n) refl

-- a whole front
pub padded-front : (u v : List Bool) (k m : ℕ) → length u ≡ k → padded (k + m) (u ++ v) ≡ u ++ padded m v
padded-front [] v zero m e = rw zero-add refl
padded-front [] v (suc k) m e = absurd (omega arith)
padded-front (b ∷ u) v zero m e = absurd (omega arith)
padded-front (b ∷ u) v (suc k) m e = rw (suc-add, padded-suc-cons (k + m) b (u ++ v), padded-front u v k m (omega arith)) refl

pub padded-nil-front : (k m : ℕ) → padded (k + m) [] ≡ replicate k false ++ padded m []
padded-nil-front zero m = rw zero-add refl
padded-nil-front (suc k) m = rw (suc-add, padded-suc-nil (k + m), padded-nil-front k m) refl

pub take-padded : (n k : ℕ) (bits : List Bool) → take n (padded (n + k) bits) ≡ padded n bits
take-padded zero k bits = sym (padded-zero bits)
take-padded (suc n) k [] = rw (suc-add, padded-suc-nil (n + k), padded-suc-nil n) (ap (λ t. false ∷ t) (take-padded n k []))
take-padded (suc n) k (b ∷ bits) = rw (suc-add, padded-suc-cons (n + k) b bits, padded-suc-cons n b bits) (ap (λ t. b ∷ t) (take-padded n k bits))

drop_nil : (r : ℕ) (bits : List Bool) → bits ≡ [] → drop r bits ≡ []
drop_nil zero bits e = e
drop_nil (suc r) [] e = refl
drop_nil (suc r) (b ∷ bits) e = absurd (let none : length (b ∷ bits) ≡ 0 = ap length e in omega arith)

-- n bits after the first r
pub drop-padded : (r n k : ℕ) (bits : List Bool) → take n (drop r (padded (r + (n + k)) bits)) ≡ padded n (drop r bits)
drop-padded zero n k bits = rw zero-add (take-padded n k bits)
drop-padded (suc r) n k [] = rw (suc-add, padded-suc-nil (r + (n + k))) (drop-padded r n k [] ∙ ap (padded n) (drop_nil r [] refl))
drop-padded (suc r) n k (b ∷ bits) = rw (suc-add, padded-suc-cons (r + (n + k)) b bits) (drop-padded r n k bits)

-- as many as are there
pub padded-le : (n : ℕ) (bits : List Bool) → n ≤ length bits → padded n bits ≡ take n bits
padded-le zero bits le = padded-zero bits
padded-le (suc n) [] le = absurd (omega arith)
padded-le (suc n) (b ∷ bits) le = rw (padded-suc-cons n b bits) (ap (λ t. b ∷ t) (padded-le n bits (omega arith)))

-- more than are there
pub padded-ge : (n k : ℕ) (bits : List Bool) → length bits ≡ n → padded (n + k) bits ≡ bits ++ replicate k false
padded-ge n k bits e = ap (padded (n + k)) (sym (append-nil bits)) ∙ padded-front bits [] n k e ∙ ap (λ t. bits ++ t) (padded-nil k)

-- ---- octets as one number
-- k octets from one on, zeros past the end
pub number : ℕ → ℕ → List ℕ → ℕ
number zero i os = 0
number (suc k) i os = get_or os i 0 * 2 ^ (8 * k) + number k (suc i) os

padded-octet : (m i : ℕ) (os : List ℕ) → padded (8 + m) (bits_of (drop i os)) ≡ word_bits 8 (get_or os i 0) ++ padded m (bits_of (drop (suc i) os))
padded-octet m zero [] = rw (bits_of-nil, word_bits-zero 8) (padded-nil-front 8 m)
padded-octet m (suc i) [] = rw (bits_of-nil, word_bits-zero 8) (padded-nil-front 8 m)
padded-octet m zero (o ∷ os) = rw (bits_of-cons o os) (padded-front (word_bits 8 o) (bits_of os) 8 m (length-word_bits 8 o))
padded-octet m (suc i) (o ∷ os) = padded-octet m i os

pub joined_below : (a n k y : ℕ) → a < 2 ^ n → y < 2 ^ k → a * 2 ^ k + y < 2 ^ (n + k)
joined_below a n k y la ly =
    let most : (a + 1) * 2 ^ k ≤ 2 ^ n * 2 ^ k = mul-le-mul_right (2 ^ k) (omega arith) in
    rw (pow-add 2 n k) (omega (arith, most))

pub number_below : (k i : ℕ) (os : List ℕ) → ((j : ℕ) → get_or os j 0 < 256) → number k i os < 2 ^ (8 * k)
unfolding number
number_below zero i os fits = omega arith
number_below (suc k) i os fits =
    let low : number k (suc i) os < 2 ^ (8 * k) = number_below k (suc i) os fits in
    let high : get_or os i 0 * 2 ^ (8 * k) < 2 ^ (8 + 8 * k) = shl_below (get_or os i 0) 8 (8 * k) (fits i) in
    let size : 8 * suc k ≡ 8 + 8 * k = omega arith in
    rw size (joined_below (get_or os i 0) 8 (8 * k) (number k (suc i) os) (fits i) low)

pub number_bits : (k i : ℕ) (os : List ℕ) → ((j : ℕ) → get_or os j 0 < 256) → word_bits (8 * k) (number k i os) ≡ padded (8 * k) (bits_of (drop i os))
unfolding word_bits number
number_bits zero i os fits = sym (padded-zero (bits_of (drop i os)))
number_bits (suc k) i os fits =
    let size : 8 * suc k ≡ 8 + 8 * k = omega arith in
    let low : number k (suc i) os < 2 ^ (8 * k) = number_below k (suc i) os fits in
    let x : ℕ = get_or os i 0 * 2 ^ (8 * k) + number k (suc i) os in
    let above : x / 2 ^ (8 * k) ≡ get_or os i 0 = shr_high (get_or os i 0) (8 * k) (number k (suc i) os) low in
    let below : x % 2 ^ (8 * k) ≡ number k (suc i) os = mod_low (get_or os i 0) (8 * k) (number k (suc i) os) low in
    let rest : word_bits (8 * k) x ≡ padded (8 * k) (bits_of (drop (suc i) os)) =
    sym (word_bits-mod (8 * k) (8 * k) x (omega arith)) ∙ ap (word_bits (8 * k)) below ∙ number_bits k (suc i) os fits in
    rw size (word_bits-add 8 (8 * k) x ∙ ap₂ (λ (a b : List Bool). a ++ b) (ap (word_bits 8) above) rest ∙ sym (padded-octet (8 * k) i os))

pub eight_octets : (os : List ℕ) → ((j : ℕ) → get_or os j 0 < 256)
    → word_bits 64 (72057594037927936 * get_or os 0 0 + 281474976710656 * get_or os 1 0 + 1099511627776 * get_or os 2 0 + 4294967296 * get_or os 3 0
    + 16777216 * get_or os 4 0 + 65536 * get_or os 5 0 + 256 * get_or os 6 0 + get_or os 7 0) ≡ padded 64 (bits_of os)
unfolding number
eight_octets os fits =
    let same : 72057594037927936 * get_or os 0 0 + 281474976710656 * get_or os 1 0 + 1099511627776 * get_or os 2 0 + 4294967296 * get_or os 3 0
    + 16777216 * get_or os 4 0 + 65536 * get_or os 5 0 + 256 * get_or os 6 0 + get_or os 7 0 ≡ number 8 0 os = omega arith in
    ap (word_bits 64) same ∙ number_bits 8 0 os fits

-- n bits after the first r of 64, as shifts give them
pub shifted_inside_64 : (x r n k : ℕ) → r + (n + k) ≡ 64 → word_bits n (x * 2 ^ r % 18446744073709551616 / 2 ^ (64 - n)) ≡ take n (drop r (word_bits 64 x))
shifted_inside_64 x r n k e =
    let low : 64 - n ≡ r + k = omega arith in
    let whole : n + (64 - n) ≡ 64 = omega arith in
    let field : x * 2 ^ r % 2 ^ (n + (64 - n)) / 2 ^ (64 - n) ≡ x * 2 ^ r / 2 ^ (64 - n) % 2 ^ n = field_of (x * 2 ^ r) n (64 - n) in
    let field64 : x * 2 ^ r % 18446744073709551616 / 2 ^ (64 - n) ≡ x * 2 ^ r / 2 ^ (64 - n) % 2 ^ n = rw whole at field in
    let back : x * 2 ^ r / 2 ^ (r + k) ≡ x / 2 ^ k = sym (shr-shr (x * 2 ^ r) r k) ∙ ap (λ y. y / 2 ^ k) (shl-shr x r) in
    let same : x * 2 ^ r / 2 ^ (64 - n) ≡ x / 2 ^ k = ap (λ m. x * 2 ^ r / 2 ^ m) low ∙ back in
    let inside : take n (drop r (word_bits (r + (n + k)) x)) ≡ word_bits n (x / 2 ^ k) = word_bits_inside r n k x in
    ap (word_bits n) field64 ∙ word_bits-mod n n (x * 2 ^ r / 2 ^ (64 - n)) (omega arith) ∙ ap (word_bits n) same ∙ sym (rw e at inside)

-- the window after the first few bits of a number of 64
pub window_bits : (x r : ℕ) (bits : List Bool) → r < 8 → word_bits 64 x ≡ padded 64 bits
    → word_bits 56 (x * 2 ^ r % 18446744073709551616 / 2 ^ 8) ≡ padded 56 (drop r bits)
window_bits x r bits lt e =
    let size : r + (56 + (8 - r)) ≡ 64 = omega arith in
    let there : take 56 (drop r (padded (r + (56 + (8 - r))) bits)) ≡ padded 56 (drop r bits) = drop-padded r 56 (8 - r) bits in
    shifted_inside_64 x r 56 (8 - r) size ∙ ap (λ w. take 56 (drop r w)) e ∙ (rw size at there)

-- the first n bits of a window
pub word_of_window : (m n w : ℕ) (bits : List Bool) → n ≤ m → word_bits m w ≡ padded m bits → word_bits n (w / 2 ^ (m - n)) ≡ padded n bits
word_of_window m n w bits le e =
    let size : n + (m - n) ≡ m = omega arith in
    let split : word_bits (n + (m - n)) w ≡ word_bits n (w / 2 ^ (m - n)) ++ word_bits (m - n) w = word_bits-add n (m - n) w in
    let split_m : word_bits m w ≡ word_bits n (w / 2 ^ (m - n)) ++ word_bits (m - n) w = rw size at split in
    let front : take n (padded (n + (m - n)) bits) ≡ padded n bits = take-padded n (m - n) bits in
    sym (take_at (word_bits n (w / 2 ^ (m - n))) (word_bits (m - n) w) n (length-word_bits n (w / 2 ^ (m - n)))) ∙ ap (take n) (sym split_m ∙ e) ∙ (rw size at front)

-- what is known of the next m bits, and zeros after it
pub padded-known : (m known : ℕ) (bits : List Bool) → known ≡ min m (length bits) → padded m bits ≡ take known bits ++ replicate (m - known) false
padded-known m known bits e = elim (cases_lt (length bits) m) [
  | inl short ↦
      let all : length bits ≡ known = omega arith in
      let size : known + (m - known) ≡ m = omega arith in
      let whole : take known bits ≡ bits = take_all known bits (omega arith) in
      ap (λ n. padded n bits) (sym size) ∙ padded-ge known (m - known) bits all ∙ ap (λ b. b ++ replicate (m - known) false) (sym whole)
  | inr long ↦
      let all : known ≡ m = omega arith in
      let none : m - known ≡ 0 = omega arith in
      rw (none, append-nil, all) (padded-le m bits long)
]

-- a word without its first bits
pub shifted_bits : (size word n : ℕ) → n ≤ size → word_bits size (word * 2 ^ n) ≡ drop n (word_bits size word) ++ replicate n false
shifted_bits size word n few =
    let high = word_bits n (word * 2 ^ n / 2 ^ size) in
    let low = word_bits size (word * 2 ^ n) in
    let same : size + n ≡ n + size = omega arith in
    let long : length (word_bits size word) ≡ size = length-word_bits size word in
    sym (drop_at high low n (length-word_bits n (word * 2 ^ n / 2 ^ size)))
    ∙ ap (drop n) (sym (word_bits-add n size (word * 2 ^ n)) ∙ ap (λ (k : ℕ). word_bits k (word * 2 ^ n)) (sym same) ∙ word_bits-shl size n word)
    ∙ drop-append-le n (word_bits size word) (replicate n false) (omega arith)
