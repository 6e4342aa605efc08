-- The bits of an information field, and look-ups in tables (ITU-T T.30, 5.3.6.2 and Table 2).
use Rattle.std.specs.Prelude.{ℕ, ◌+◌, ◌-◌, ◌*◌, ◌/◌, ◌%◌, ◌^◌, ◌==◌, nat_lt, Bool, List, [], ◌∷◌, Option, Some, None, if◌then◌else◌, slice_index}
use Rattle.std.specs.Int.RustNames.{bit_and}

-- bit n of an information field, from 1 on: in each octet the most significant bit comes first
abbrev pub bit_of : ℕ → List ℕ → Bool
bit_of n info = nat_lt 0 (bit_and (slice_index info ((n - 1) / 8)) (0x80 / 2 ^ ((n - 1) % 8)))

-- bits 1 to 24, those of three octets, as one number whose highest bit is bit 1
abbrev pub bits_of_octets : ℕ → ℕ → ℕ → ℕ
bits_of_octets first second third = 0x1_00_00 * first + 0x1_00 * second + third

-- the three octets of bits 1 to 24
abbrev pub octets_of : ℕ → List ℕ
octets_of bits = bits / 0x1_00_00 % 256 ∷ bits / 0x1_00 % 256 ∷ bits % 256 ∷ []

-- the bits from first to last of these 24, as a number whose highest bit is the first
abbrev pub code_at : ℕ → ℕ → ℕ → ℕ
code_at first last bits = bits / 2 ^ (24 - last) % 2 ^ (last + 1 - first)

-- bit n of these 24
abbrev pub has_bit : ℕ → ℕ → Bool
has_bit n bits = code_at n n bits == 1

-- a code put where its last bit is bit n
abbrev pub put_at : ℕ → ℕ → ℕ
put_at n code = code * 2 ^ (24 - n)

-- what stands beside a code in a table
abbrev pub look_up : {A : Type 0} → List (ℕ × A) → ℕ → Option A
look_up [] code = None
look_up (entry ∷ table) code = if entry.0 == code then Some entry.1 else look_up table code
