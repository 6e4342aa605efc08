-- Where records stand in their file, and pages that were read of them. (This project's profile.)
use Rattle.std.specs.Prelude.{◌≡◌, ℕ, ◌+◌, List, [], ◌∷◌, ◌++◌, length}
use Rattle.fax_spool.specs.RecordOctets.{PageValue}
use Rattle.fax_spool.specs.SpoolRecords.{IsReadAs}
use Rattle.fax_spool.specs.declared.record_place.RecordPlace.{RecordPlace}
use Rattle.fax_spool.specs.declared.spool_record.SpoolRecord.TheVariants.{Page}

-- how many octets records have in a file: before each stands a header of 15
abbrev pub octets_of : List (List ℕ) → ℕ
octets_of [] = 0
octets_of (r ∷ rs) = 15 + length r + octets_of rs

-- A RECORD STANDS AT A PLACE in a file of these records: after those before it, and its own header; and it has as many octets.
pub record StandsAt (items : List (List ℕ)) (place : RecordPlace) (item : List ℕ) : Type 0 where
  pub before : List (List ℕ)
  pub after : List (List ℕ)
  pub split : items ≡ before ++ item ∷ after
  pub at : place.at ≡ octets_of before + 15
  pub size : place.octets ≡ length item

-- a page that was read of a record, the octets of this, and where they stand
pub record PlacedPage : Type 0 where
  pub page : PageValue
  pub item : List ℕ
  pub place : RecordPlace

-- it is this page, and its record stands there in a file of these records
abbrev pub IsReadAt : List (List ℕ) → PlacedPage → PageValue → Type 0
IsReadAt items placed page = (placed.page ≡ page)
    × StandsAt items placed.place placed.item × IsReadAs placed.item (Page page)

-- they are these pages, in this order
abbrev pub AreReadAt : List (List ℕ) → List PlacedPage → List PageValue → Type 0
AreReadAt items [] [] = Unit {0}
AreReadAt items (placed ∷ more) (page ∷ pages) =
    IsReadAt items placed page × AreReadAt items more pages
AreReadAt items placed pages = ⊥
