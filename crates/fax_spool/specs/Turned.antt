-- Files in which an octet was turned. (This project's profile.)
use Rattle.std.specs.Prelude.{◌≡◌, ◌⊎◌, ℕ, List, [], ◌∷◌, ◌++◌, length, slice_index}
use Rattle.std.specs.List.{All}
use Rattle.fax_spool.specs.Records.{IsShort, Stands, blocks, shut}

-- the octet at this place may be another, and all others are as they were
pub record IsTurned (place : ℕ) (file other : List ℕ) : Type 0 where
  pub size : length other ≡ length file
  pub others : (i : ℕ) → (i ≡ place → ⊥) → slice_index other i ≡ slice_index file i

-- as many records, each as long as it was, of which one at most is another
abbrev pub DifferInOne : List (List ℕ) → List (List ℕ) → Type 0
DifferInOne [] [] = Unit {0}
DifferInOne (r ∷ records) (f ∷ found) =
    (length f ≡ length r) × (((f ≡ r) × DifferInOne records found) ⊎ (found ≡ records))
DifferInOne records found = ⊥

-- ONE TURNED OCTET HARMS ONE RECORD AT MOST, wherever it stands in a file as it was written, and whatever stands after its shut gate.
abbrev pub OneTurnedOctet : Type 0
OneTurnedOctet = (records : List (List ℕ)) (after file : List ℕ) (place : ℕ)
    → All IsShort records → IsTurned place (blocks records ++ (shut ++ after)) file
    → (found : List (List ℕ)) × Stands file found × DifferInOne records found
