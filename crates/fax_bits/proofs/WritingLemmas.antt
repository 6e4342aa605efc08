-- Bits that are put after others.
use Rattle.std.proofs.Common.{◌≡◌, ℕ, ◌+◌, ◌-◌, ◌*◌, ◌/◌, ◌%◌, ◌^◌, ◌<◌, ◌≤◌, Bool, false, List, ◌++◌, length, take, replicate, sym, ◌∙◌, ap, ap₂, arith, append_assoc, length-append, bit_and, bit_or}
use Rattle.std.proofs.lemmas.Nat.{mod-pow-add, shl-shr, pow_pos, one_shl, and_mask, shl_below, or_shifted, shr_high, mod_low, pow_below, mod_below, shr_below}
use Rattle.std.proofs.Math.Nat.{mod-eq_of_lt, mul-mod_left}
use Rattle.std.proofs.lemmas.List.{take_at, length-replicate, replicate-append-replicate}
use Rattle.std.specs.Int.{to_be_bytes, w32}
use Rattle.fax_bits.specs.Bits.{word_bits, bits_of}
use Rattle.fax_bits.proofs.BitsLemmas.{word_bits-add, word_bits-mod, word_bits-shl, length-word_bits, bits_of-append, bits_of-be, take-bits_of}

pub low_bits_64 : (n x : ℕ) → n ≤ 32 → word_bits n (bit_and x (1 * 2 ^ n % 18446744073709551616 - 1)) ≡ word_bits n x
low_bits_64 n x le =
    let one : 1 * 2 ^ n % 2 ^ 64 ≡ 2 ^ n = one_shl n 64 (omega arith) in
    ap (λ m. word_bits n (bit_and x (m - 1))) one ∙ ap (word_bits n) (and_mask x n) ∙ word_bits-mod n n x (omega arith)

pub low_bits_below : (n x : ℕ) → n ≤ 32 → bit_and x (1 * 2 ^ n % 18446744073709551616 - 1) < 2 ^ n
low_bits_below n x le =
    let one : 1 * 2 ^ n % 2 ^ 64 ≡ 2 ^ n = one_shl n 64 (omega arith) in
    let masked : bit_and x (1 * 2 ^ n % 18446744073709551616 - 1) ≡ x % 2 ^ n = ap (λ m. bit_and x (m - 1)) one ∙ and_mask x n in
    rw masked (mod_below x (2 ^ n) (pow_pos n))

pub joined_sum : (n a b : ℕ) → n ≤ 32 → a < 2 ^ 31 → b < 2 ^ n → bit_or (a * 2 ^ n % 18446744073709551616) b ≡ a * 2 ^ n + b
joined_sum n a b le la lb =
    let small : a * 2 ^ n < 2 ^ (31 + n) = shl_below a 31 n la in
    let wide : 2 ^ (31 + n) < 2 ^ 64 = pow_below (31 + n) 64 (omega arith) in
    let whole : a * 2 ^ n % 18446744073709551616 ≡ a * 2 ^ n = mod-eq_of_lt (omega arith) in
    ap (λ m. bit_or m b) whole ∙ or_shifted a n b lb

-- bits put after others
pub word_bits_sum : (k n a b : ℕ) → b < 2 ^ n → word_bits (k + n) (a * 2 ^ n + b) ≡ word_bits k a ++ word_bits n b
word_bits_sum k n a b lb =
    let high : (a * 2 ^ n + b) / 2 ^ n ≡ a = shr_high a n b lb in
    let low : (a * 2 ^ n + b) % 2 ^ n ≡ b = mod_low a n b lb in
    word_bits-add k n (a * 2 ^ n + b) ∙ ap (λ m. word_bits k m ++ word_bits n (a * 2 ^ n + b)) high
    ∙ ap (λ bs. word_bits k a ++ bs) (sym (word_bits-mod n n (a * 2 ^ n + b) (omega arith)) ∙ ap (word_bits n) low)

-- four octets of 32 and more bits, and the rest after them
pub bits_of-four : (items octets : List ℕ) (rest all low : ℕ) → all < 2 ^ (32 + rest) → octets ≡ to_be_bytes w32 (all / 2 ^ rest) → word_bits rest low ≡ word_bits rest all
    → bits_of (items ++ octets) ++ word_bits rest low ≡ bits_of items ++ word_bits (32 + rest) all
bits_of-four items octets rest all low lt e same =
    let below : all / 2 ^ rest < 2 ^ 32 = shr_below all 32 rest lt in
    let bits : bits_of octets ≡ word_bits 32 (all / 2 ^ rest) = ap bits_of e ∙ bits_of-be (all / 2 ^ rest) below in
    ap₂ (λ (a b : List Bool). a ++ b) (bits_of-append items octets ∙ ap (λ b. bits_of items ++ b) bits) same
    ∙ append_assoc (bits_of items) (word_bits 32 (all / 2 ^ rest)) (word_bits rest all)
    ∙ ap (λ b. bits_of items ++ b) (sym (word_bits-add 32 rest all))

-- bits put after others, whatever stands above those
pub joined_bits : (k n a b : ℕ) → k ≤ 32 → n ≤ 32 → b < 2 ^ n → word_bits (k + n) (bit_or (a * 2 ^ n % 18446744073709551616) b) ≡ word_bits k a ++ word_bits n b
joined_bits k n a b few le lb =
    let q : ℕ = a % 2 ^ (64 - n) in
    let whole : 64 - n + n ≡ 64 = omega arith in
    let parts : a * 2 ^ n % 2 ^ (64 - n + n) ≡ a * 2 ^ n / 2 ^ n % 2 ^ (64 - n) * 2 ^ n + a * 2 ^ n % 2 ^ n = mod-pow-add (a * 2 ^ n) (64 - n) n in
    let kept : a * 2 ^ n % 2 ^ (64 - n + n) ≡ q * 2 ^ n + 0 = parts ∙ ap₂ (λ x y. x % 2 ^ (64 - n) * 2 ^ n + y) (shl-shr a n) (mul-mod_left a (2 ^ n)) in
    let kept64 : a * 2 ^ n % 2 ^ 64 ≡ q * 2 ^ n + 0 = rw whole at kept in
    let top : a * 2 ^ n % 18446744073709551616 ≡ q * 2 ^ n = omega (arith, kept64) in
    ap (λ m. word_bits (k + n) (bit_or m b)) top ∙ ap (word_bits (k + n)) (or_shifted q n b lb) ∙ word_bits_sum k n q b lb
    ∙ ap (λ bs. bs ++ word_bits n b) (word_bits-mod k (64 - n) a (omega arith))

-- the octets of 32 bits that stand above a rest
pub bits_of-above : (items octets : List ℕ) (rest all : ℕ) → octets ≡ to_be_bytes w32 (all / 2 ^ rest % 4294967296)
    → bits_of (items ++ octets) ++ word_bits rest all ≡ bits_of items ++ word_bits (32 + rest) all
bits_of-above items octets rest all e =
    let bits : bits_of octets ≡ word_bits 32 (all / 2 ^ rest) =
    ap bits_of e ∙ bits_of-be (all / 2 ^ rest % 4294967296) (mod_below (all / 2 ^ rest) 4294967296 (omega arith)) ∙ word_bits-mod 32 32 (all / 2 ^ rest) (omega arith) in
    ap (λ a. a ++ word_bits rest all) (bits_of-append items octets ∙ ap (λ b. bits_of items ++ b) bits)
    ∙ append_assoc (bits_of items) (word_bits 32 (all / 2 ^ rest)) (word_bits rest all)
    ∙ ap (λ b. bits_of items ++ b) (sym (word_bits-add 32 rest all))

pub top_below : (count pending : ℕ) → count ≤ 32 → pending < 2 ^ count → pending * 2 ^ (32 - count) % 18446744073709551616 < 4294967296
top_below count pending le lt =
    let whole : count + (32 - count) ≡ 32 = omega arith in
    let below : pending * 2 ^ (32 - count) < 2 ^ (count + (32 - count)) = shl_below pending count (32 - count) lt in
    let below32 : pending * 2 ^ (32 - count) < 2 ^ 32 = rw whole at below in
    omega arith

-- a rest of fewer than 32 bits, made octets
pub bits_of-last : (items octets : List ℕ) (count pending : ℕ) → count ≤ 31 → pending < 2 ^ count → octets ≡ to_be_bytes w32 (pending * 2 ^ (32 - count) % 18446744073709551616)
    → bits_of (items ++ take ((count + 7) / 8) octets) ≡ (bits_of items ++ word_bits count pending) ++ replicate (8 * ((count + 7) / 8) - count) false
bits_of-last items octets count pending le lt e =
    let n : ℕ = (count + 7) / 8 in
    let size : length octets ≡ 4 = ap length e in
    let whole : count + (32 - count) ≡ 32 = omega arith in
    let x : ℕ = pending * 2 ^ (32 - count) % 18446744073709551616 in
    let below : x < 2 ^ 32 = top_below count pending (omega arith) lt in
    let top : word_bits (count + (32 - count)) (pending * 2 ^ (32 - count)) ≡ word_bits count pending ++ replicate (32 - count) false = word_bits-shl count (32 - count) pending in
    let top32 : word_bits 32 x ≡ word_bits count pending ++ replicate (32 - count) false = word_bits-mod 32 64 (pending * 2 ^ (32 - count)) (omega arith) ∙ (rw whole at top) in
    let bits : bits_of octets ≡ word_bits count pending ++ replicate (32 - count) false = ap bits_of e ∙ bits_of-be x below ∙ top32 in
    let front : bits_of (take n octets) ≡ take (8 * n) (word_bits count pending ++ replicate (32 - count) false) = sym (take-bits_of n octets (omega arith)) ∙ ap (take (8 * n)) bits in
    let pads : ℕ = 8 * n - count in
    let cut : take (8 * n) (word_bits count pending ++ replicate (32 - count) false) ≡ word_bits count pending ++ replicate pads false =
    ap (take (8 * n)) (ap (λ b. word_bits count pending ++ b) (zeros_split pads (32 - count) (omega arith)) ∙ sym (append_assoc (word_bits count pending) (replicate pads false) (replicate (32 - count - pads) false)))
    ∙ take_at (word_bits count pending ++ replicate pads false) (replicate (32 - count - pads) false) (8 * n) (length-append (word_bits count pending) (replicate pads false) ∙ ap₂ (λ (a b : ℕ). a + b) (length-word_bits count pending) (length-replicate pads false) ∙ omega arith) in
    bits_of-append items (take n octets) ∙ ap (λ b. bits_of items ++ b) (front ∙ cut) ∙ sym (append_assoc (bits_of items) (word_bits count pending) (replicate pads false))
  where
    zeros_split : (a b : ℕ) → a ≤ b → replicate b false ≡ replicate a false ++ replicate (b - a) false
    zeros_split a b le = let sum : a + (b - a) ≡ b = omega arith in ap (λ n. replicate n false) (sym sum) ∙ sym (replicate-append-replicate a (b - a) false)
