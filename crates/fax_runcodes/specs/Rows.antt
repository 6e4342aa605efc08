-- Rows of a page: their elements, runs and changing elements (ITU-T T.4, 4.1.1 and 4.2.1.3.1).
use Rattle.std.specs.Prelude.{◌≡◌, ℕ, zero, suc, ◌-◌, ◌<◌, Bool, true, false, ◌⊎◌, List, [], ◌∷◌, ◌++◌, All, Contains, find, sum, length, drop, replicate, slice_index_or, unwrap_or, ◌↔◌, IsTrue}
use Rattle.std.specs.List.Sorted.{IsStrictlyIncreasing}
use Rattle.std.specs.List.{range_with_len}
use Rattle.fax_runcodes.specs.declared.Colour.{Colour}
use Rattle.fax_runcodes.specs.declared.Colour.TheVariants.{White, Black}

-- the widths of a row, in elements
abbrev pub IsWidth : ℕ → Type 0
IsWidth n = (n ≡ 1728) ⊎ (n ≡ 2048) ⊎ (n ≡ 2432)

-- a row: its elements from left to right
abbrev pub Elements : Type 0
Elements = List Colour

abbrev pub other : Colour → Colour
other White = Black
other Black = White

-- stretches of these lengths, of one colour and the other in turn, joined
abbrev pub stretches : Colour → List ℕ → Elements
stretches colour [] = []
stretches colour (n ∷ runs) = replicate n colour ++ stretches (other colour) runs

-- The runs of a row: alternating, white first, and no run but the first is empty.
pub record AreRuns (runs : List ℕ) (row : Elements) : Type 0 where
  pub row_is : row ≡ stretches White runs
  pub not_empty : All (λ n. 0 < n) (drop 1 runs)

-- run lengths of which a row can be made
pub record AreRunsOfRow (runs : List ℕ) : Type 0 where
  pub width : IsWidth (sum runs)
  pub not_empty : All (λ n. 0 < n) (drop 1 runs)

-- ---- changing elements

abbrev pub differ : Colour → Colour → Bool
differ White White = false
differ White Black = true
differ Black White = true
differ Black Black = false

-- the colour at a place, and white past the end
abbrev pub colour_at : Elements → ℕ → Colour
colour_at row place = slice_index_or row place White

-- the colour just before a place; before the first element stands an imaginary white one
abbrev pub colour_before : Elements → ℕ → Colour
colour_before row zero = White
colour_before row (suc place) = colour_at row place

-- whether the element at a place is a changing one: its colour is not that of the one before it
abbrev pub is_changing : Elements → ℕ → Bool
is_changing row place = differ (colour_at row place) (colour_before row place)

-- the changing places of a row, rising
pub record AreChanges (changes : List ℕ) (row : Elements) : Type 0 where
  pub rising : IsStrictlyIncreasing changes
  pub all : (place : ℕ)
      → Contains changes place ↔ ((place < length row) × IsTrue (is_changing row place))

-- the first place from one on, and before an end, that passes the test; the end where none does
abbrev pub first_place : (ℕ → Bool) → ℕ → ℕ → ℕ
first_place test from end = unwrap_or (find test (range_with_len from (end - from))) end
