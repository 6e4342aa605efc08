-- Rows that share one list of changing places.
use Rattle.std.specs.Prelude.{◌≡◌, ℕ, ◌+◌, ◌<◌, ◌≤◌, List, [], ◌∷◌, length, take, drop, slice_index_or}
use Rattle.fax_runcodes.specs.declared.Colour.TheVariants.{White}
use Rattle.fax_runcodes.specs.Rows.{Elements, IsWidth}
use Rattle.fax_runcodes.specs.Painted.{painted, AreRising}
use Rattle.fax_pagestore.specs.declared.store.packed.Extent.{Extent}

-- so many of the places, from an index on
abbrev pub places_at : List ℕ → ℕ → ℕ → List ℕ
places_at places start count = take count (drop start places)

-- the row of a width that changes its colour at these places
abbrev pub row_at : List ℕ → ℕ → ℕ → ℕ → Elements
row_at places start count width = painted White 0 (places_at places start count) width

-- the places are there, and are those of a row of the width
pub record HasRowAt (places : List ℕ) (start count width : ℕ) : Type 0 where
  pub within : start + count ≤ length places
  pub rising : AreRising 0 (places_at places start count) width
  pub is_width : IsWidth width

-- the places of each extent end before those of the extents after it begin
abbrev pub AreInOrder : List Extent → Type 0
AreInOrder extents = (j k : ℕ) (e : Extent) → j < k
    → k < length extents → (slice_index_or extents j e).start + (slice_index_or extents j e).count
    ≤ (slice_index_or extents k e).start

-- The places of each extent begin where those of the one before it end, and the last end here: none are spare.
abbrev pub AreSideBySide : (from : ℕ) → List Extent → (end : ℕ) → Type 0
AreSideBySide from [] end = end ≡ from
AreSideBySide from (e ∷ extents) end = (e.start ≡ from) × AreSideBySide (from + e.count) extents end
