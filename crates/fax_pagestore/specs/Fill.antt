-- Octets less long fill, whose zeros mean nothing by their number (ITU-T T.4, 4.1.3).
use Rattle.std.specs.Prelude.{ℕ, zero, suc, ◌+◌, nat_lt, if◌then◌else◌, List, [], ◌∷◌, ◌++◌}

-- the most octets of zeros that are kept side by side
abbrev pub most_zeros : ℕ
most_zeros = 4

-- how many octets of zeros stand at the end, of which four are counted, where so many stood before one more octet
unfoldable pub zeros_with : (before octet : ℕ) → ℕ
zeros_with before zero = if nat_lt before most_zeros then before + 1 else before
zeros_with before (suc n) = 0

-- the same after octets
unfoldable pub zeros_after : (before : ℕ) → List ℕ → ℕ
zeros_after before [] = before
zeros_after before (octet ∷ octets) = zeros_after (zeros_with before octet) octets

-- an octet, but for one of zeros after so many others
unfoldable pub kept_octet : (before octet : ℕ) → List ℕ
kept_octet before zero = if nat_lt before most_zeros then 0 ∷ [] else []
kept_octet before (suc n) = suc n ∷ []

-- octets without those of zeros that stand after so many others, where so many stood before all of them
unfoldable pub less_fill : (before : ℕ) → List ℕ → List ℕ
less_fill before [] = []
less_fill before (octet ∷ octets) =
    kept_octet before octet ++ less_fill (zeros_with before octet) octets
