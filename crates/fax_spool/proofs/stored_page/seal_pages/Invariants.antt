use Rattle.std.proofs.Common.{◌≡◌, List, ℕ, ◌++◌, map, take}
use Rattle.fax_spool.specs.SpoolRecords.{AreReadAs, page_record}
use Rattle.fax_spool.specs.StoredPages.{AreKnownAs}
use Rattle.fax_spool.specs.Places.{octets_of}
use Rattle.fax_spool.proofs.stored_page.seal_pages.Given as goal

-- the records of the pages so far, and where they end after others; and these pages as they are known
abbrev pub invariant-loop-page : goal.invariant-loop-page
invariant-loop-page l =
    AreReadAs (map (λ v. v.items) l.items.items) (map page_record (take l.page-index l.pages))
    × ((before : List (List ℕ)) → octets_of before ≡ l.initial.at
    → (l.at ≡ octets_of (before ++ map (λ v. v.items) l.items.items)) × AreKnownAs (before ++ map (λ v. v.items) l.items.items) l.kept.items (take l.page-index l.pages))
