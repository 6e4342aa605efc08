-- Octets in which the bits of others are set too.
use Rattle.std.specs.Prelude.{ℕ, ◌+◌, List, [], ◌∷◌, get_or, set, bit_or}

-- from this octet on, the bits of these masks set, one octet each
abbrev pub with_bits : List ℕ → ℕ → List ℕ → List ℕ
with_bits octets from [] = octets
with_bits octets from (mask ∷ masks) =
    with_bits (set octets from (bit_or (get_or octets from 0) mask)) (from + 1) masks
