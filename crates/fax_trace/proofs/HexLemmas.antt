-- What two digits stand for, and what octets are written as.
use Rattle.std.proofs.Common.{◌≡◌, ℕ, ◌+◌, ◌*◌, ◌%◌, ◌<◌, ◌≤◌, List, length, Option, Some, None, unwrap_or, Result, Ok, Err, refl, sym, ap, ◌∙◌, arith}
use Rattle.hex.specs.Hex.{hex_digit_value, pair_value, value_at, digit_or_error, decode_of, decode_pairs}
use Rattle.hex.specs.declared.error.FromHexError.{FromHexError}
use Rattle.hex.specs.declared.error.FromHexError.TheVariants.{InvalidHexCharacter}
use Rattle.hex.proofs.HexLemmas.{decode_of-even}

some_from_unwrap : (found : Option ℕ) (v : ℕ) → v ≡ unwrap_or found 255 → v < 16 → found ≡ Some v
some_from_unwrap (Some w) v e low = ap Some (sym e)
some_from_unwrap None v e low = absurd (omega arith)

value_is_low : (c v : ℕ) → hex_digit_value c ≡ Some v → v < 16
value_is_low c v h = grind (arith)

none_from_unwrap : (c : ℕ) (found : Option ℕ) (v : ℕ) → hex_digit_value c ≡ found → v ≡ unwrap_or found 255 → 16 ≤ v → found ≡ None
none_from_unwrap c (Some w) v is e high = let low = value_is_low c w is in absurd (omega arith)
none_from_unwrap c None v is e high = refl

value_ok : (c i v : ℕ) → v ≡ unwrap_or (hex_digit_value c) 255 → v < 16 → value_at c i ≡ Ok v
value_ok c i v e low = ap (digit_or_error c i) (some_from_unwrap (hex_digit_value c) v e low)

value_bad : (c i v : ℕ) → v ≡ unwrap_or (hex_digit_value c) 255 → 16 ≤ v → value_at c i ≡ Err (InvalidHexCharacter c i)
value_bad c i v e high = ap (digit_or_error c i) (none_from_unwrap c (hex_digit_value c) v refl e high)

-- both are digits
pub pair_ok : (a b i high low : ℕ) → high ≡ unwrap_or (hex_digit_value a) 255 → low ≡ unwrap_or (hex_digit_value b) 255 → high < 16 → low < 16
    → pair_value a b i ≡ Ok (high * 16 + low)
pair_ok a b i high low is_high is_low first second = rw (value_ok a i high is_high first, value_ok b (i + 1) low is_low second) refl

-- the first is none
pub pair_high : (a b i high : ℕ) → high ≡ unwrap_or (hex_digit_value a) 255 → 16 ≤ high → pair_value a b i ≡ Err (InvalidHexCharacter a i)
pair_high a b i high is bad = rw (value_bad a i high is bad) refl

-- or the second is none
pub pair_low : (a b i high low : ℕ) → high ≡ unwrap_or (hex_digit_value a) 255 → low ≡ unwrap_or (hex_digit_value b) 255 → high < 16 → 16 ≤ low
    → pair_value a b i ≡ Err (InvalidHexCharacter b (i + 1))
pair_low a b i high low is_high is_low first bad = rw (value_ok a i high is_high first, value_bad b (i + 1) low is_low bad) refl

-- a text of pairs is not read where it is refused
pub not_read : (s octets : List ℕ) (e : FromHexError) → length s % 2 ≡ 0 → decode_pairs 0 s ≡ Err e → decode_of s ≡ Ok octets → ⊥
not_read s octets e even bad good =
    let same : decode_of s ≡ Err e = decode_of-even s even ∙ bad in
    cc (sym same ∙ good)
