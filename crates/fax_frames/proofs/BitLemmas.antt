-- The bits of a number: by masks, and by division.
use Rattle.std.proofs.Common.{◌≡◌, ℕ, zero, suc, ◌*◌, ◌/◌, ◌%◌, ◌^◌, ◌<◌, ◌==◌, false, nat_lt, ap, ◌∙◌, arith}
use Rattle.std.specs.Int.{bit_at}
use Rattle.std.specs.Int.RustNames.{bit_and}
use Rattle.std.proofs.lemmas.Nat.{pow_pos}
use Rattle.std.proofs.lemmas.Nat.Bits.{and_pow, bit_at-lt}

not_zero : (mask : ℕ) → 0 < mask → (0 == mask) ≡ false
not_zero mask positive = grind arith

-- a number that is 0 or 1, times a mask, is the mask where it is 1
scaled : (bit mask : ℕ) → bit < 2 → 0 < mask → (bit * mask == mask) ≡ (bit == 1)
scaled zero mask below positive = grind arith
scaled (suc zero) mask below positive = grind arith
scaled (suc (suc n)) mask below positive = absurd (omega arith)

-- all bits of a mask are set where its one bit is
pub mask_test : (n k : ℕ) → (bit_and n (2 ^ k) == 2 ^ k) ≡ (n / 2 ^ k % 2 == 1)
mask_test n k = ap (λ x. x == 2 ^ k) (and_pow n k) ∙ scaled (bit_at n k) (2 ^ k) (bit_at-lt n k) (pow_pos k)

hit : (bit mask : ℕ) → bit < 2 → 0 < mask → nat_lt 0 (bit * mask) ≡ (bit == 1)
hit zero mask below positive = grind arith
hit (suc zero) mask below positive = grind arith
hit (suc (suc n)) mask below positive = absurd (omega arith)

-- some bit of a mask is set where its one bit is
pub mask_hit : (n k : ℕ) → nat_lt 0 (bit_and n (2 ^ k)) ≡ (bit_at n k == 1)
mask_hit n k = ap (λ x. nat_lt 0 x) (and_pow n k) ∙ hit (bit_at n k) (2 ^ k) (bit_at-lt n k) (pow_pos k)
