-- What holds of bits and octets.
use Rattle.std.specs.Prelude.{◌≡◌, ℕ, ◌-◌, ◌*◌, ◌/◌, ◌%◌, ◌<◌, Bool, false, List, All, length, slice_index, slice_index_or}
use Rattle.fax_bits.specs.Bits.{bit, bits_of}
use Rattle.fax_bits.specs.Writing.{IsPadded}

-- bit i of octets is bit 7 - i mod 8 of octet i div 8 (T.30, 5.3.1: the most significant bit first)
abbrev pub BitsStandInOrder : Type 0
BitsStandInOrder = (octets : List ℕ) (i : ℕ) → i < 8 * length octets
    → slice_index_or (bits_of octets) i false ≡ bit (slice_index octets (i / 8)) (7 - i % 8)

-- each of these is an octet
abbrev pub AreOctets : List ℕ → Type 0
AreOctets octets = All (λ o. o < 256) octets

-- octets that hold the same bits, with fewer than eight zeros after them, are the same
abbrev pub PaddingIsUnique : Type 0
PaddingIsUnique = (bits : List Bool) (a b : List ℕ)
    → AreOctets a → AreOctets b → IsPadded a bits → IsPadded b bits → a ≡ b
