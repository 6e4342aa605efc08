-- Bits of at most 128.
use Rattle.std.proofs.Common.{◌≡◌, ℕ, ◌/◌, ◌%◌, ◌^◌, ◌<◌, ◌≤◌, sym}
use Rattle.std.proofs.Math.Nat.{div-eq_of_lt, mod-eq_of_lt, lt_of_lt_of_le}
use Rattle.std.proofs.Math.Pow.{pow_mono}

pub small : (bits free : ℕ) → bits < 2 ^ 128 → 128 ≤ free → bits < 2 ^ free
small bits free fits all = lt_of_lt_of_le fits (pow_mono all)

-- none are left
pub none_left : (bits free : ℕ) → bits < 2 ^ 128 → 128 ≤ free → 0 ≡ bits / 2 ^ free
none_left bits free fits all = sym (div-eq_of_lt (small bits free fits all))

-- all are taken
pub all_taken : (bits free : ℕ) → bits < 2 ^ 128 → 128 ≤ free → bits ≡ bits % 2 ^ free
all_taken bits free fits all = sym (mod-eq_of_lt (small bits free fits all))
