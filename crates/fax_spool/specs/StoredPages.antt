-- The pages that wait, as a spool knows them in memory, and their records, put again. (This project's profile.)
use Rattle.std.specs.Prelude.{◌≡◌, ℕ, Bool, true, false, not, List, [], ◌∷◌, ◌++◌, map}
use Rattle.std.specs.List.{filter}
use Rattle.fax_runcodes.specs.declared.Width.TheVariants.{W1728}
use Rattle.fax_jobs.specs.declared.outcome.Outcome.TheVariants.{NotPlaced}
use Rattle.fax_spool.specs.RecordOctets.{PageValue, EndedValue}
use Rattle.fax_spool.specs.SpoolRecords.{IsReadAs, page_record}
use Rattle.fax_spool.specs.Places.{StandsAt}
use Rattle.fax_spool.specs.Waits.{PageName, ends, name_of}
use Rattle.fax_spool.specs.declared.stored_page.StoredPage.{StoredPage}
use Rattle.fax_spool.specs.declared.stored_page.RecordSource.{RecordSource}
use Rattle.fax_spool.specs.declared.stored_page.RecordSource.TheVariants.{Memory, File}
use Rattle.fax_spool.specs.declared.spool_record.SpoolRecord.{SpoolRecord}
use Rattle.fax_spool.specs.declared.spool_record.SpoolRecord.TheVariants.{Page, Ended}

-- The record of this page is there: its octets are in memory, or they stand at a place in a file of these records.
abbrev pub IsRecordOf : List (List ℕ) → RecordSource → PageValue → Type 0
IsRecordOf items (Memory octets) page = IsReadAs octets.items (Page page)
IsRecordOf items (File place) page =
    (item : List ℕ) × StandsAt items place item × IsReadAs item (Page page)

-- it is this page that is known: its name, and where its record is
abbrev pub IsKnownAs : List (List ℕ) → StoredPage → PageValue → Type 0
IsKnownAs items kept page = (kept.name ≡ name_of page) × IsRecordOf items kept.source page

-- they are these pages, in this order
abbrev pub AreKnownAs : List (List ℕ) → List StoredPage → List PageValue → Type 0
AreKnownAs items [] [] = Unit {0}
AreKnownAs items (k ∷ kept) (page ∷ pages) = IsKnownAs items k page × AreKnownAs items kept pages
AreKnownAs items kept pages = ⊥

abbrev pub memory_has : RecordSource → Bool
memory_has (Memory octets) = true
memory_has (File place) = false

-- the octets of its record are in memory
abbrev pub is_in_memory : StoredPage → Bool
is_in_memory kept = memory_has kept.source

-- of the pages that are known, those that none of these jobs had
abbrev pub known_without : List EndedValue → List StoredPage → List StoredPage
known_without [] known = known
known_without (ended ∷ others) known =
    known_without others (filter (λ page. not (ends ended page.name)) known)

-- ---- put again

-- an end of this page alone: of it no report tells
abbrev pub end_alone : PageName → EndedValue
end_alone page =
    record {
      life = page.life;
      call = page.call;
      first = page.number;
      pages = 1;
      delivered = 0;
      format = record { width = W1728; fine = false };
      outcome = NotPlaced;
      line = page.line;
    }

abbrev pub ended_alone : PageValue → SpoolRecord
ended_alone page = Ended (end_alone (name_of page))

-- THE RECORDS OF PAGES THAT ARE PUT AGAIN: each of them ends, and then all of them wait, in their order.
abbrev pub put_again : List PageValue → List SpoolRecord
put_again pages = map ended_alone pages ++ map page_record pages
