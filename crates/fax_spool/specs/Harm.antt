-- Records of which some are found damaged. (This project's profile.)
use Rattle.std.specs.Prelude.{◌≡◌, ◌⊎◌, ◌<◌, ◌≤◌, Bool, true, false, ◌&&◌, nat_eq, List, [], ◌∷◌, ◌++◌}
use Rattle.std.specs.List.{Contains, list_any}
use Rattle.fax_spool.specs.RecordOctets.{PageValue}
use Rattle.fax_spool.specs.Spools.{AreInOrder, IsOrderFound, epochs}
use Rattle.fax_spool.specs.Waits.{left_after, waiting, without}
use Rattle.fax_spool.specs.Torn.{is_next, is_of_any, same_call, torn_calls}
use Rattle.fax_spool.specs.declared.spool_record.SpoolRecord.{SpoolRecord}
use Rattle.fax_spool.specs.declared.spool_record.SpoolRecord.TheVariants.{Page, Ended, Epoch, Damaged}

-- each record is found as it was, or as damaged
abbrev pub IsHarmed : List SpoolRecord → List SpoolRecord → Type 0
IsHarmed [] [] = Unit {0}
IsHarmed (r ∷ records) (f ∷ found) = ((f ≡ r) ⊎ (f ≡ Damaged)) × IsHarmed records found
IsHarmed records found = ⊥

-- and of one of them at most
abbrev pub IsHarmedOnce : List SpoolRecord → List SpoolRecord → Type 0
IsHarmedOnce [] [] = Unit {0}
IsHarmedOnce (r ∷ records) (f ∷ found) =
    ((f ≡ r) × IsHarmedOnce records found) ⊎ ((f ≡ Damaged) × (found ≡ records))
IsHarmedOnce records found = ⊥

-- HARM KEEPS THE ORDER OF THE FILES, whatever was harmed of the older one, and as long as a record of an epoch of the newer one can be
-- read. (Where none can be, the newer one is taken for the older one.)
abbrev pub HarmKeepsTheOrder : Type 0
HarmKeepsTheOrder = (olds news older newer : List SpoolRecord) → IsOrderFound olds news
    → IsHarmed olds older → IsHarmed news newer → 1 ≤ epochs newer → IsOrderFound older newer

-- So harm of one record of the newer one does.
abbrev pub OneHarmKeepsTheOrder : Type 0
OneHarmKeepsTheOrder = (olds news older newer : List SpoolRecord) → AreInOrder olds news
    → IsHarmed olds older → IsHarmedOnce news newer → IsOrderFound older newer

-- the pages that wait by a record and those after it, where these wait without it
abbrev pub with_record : List PageValue → SpoolRecord → List SpoolRecord → List PageValue
with_record pages (Page page) after = pages ++ left_after (page ∷ []) after
with_record pages (Ended ended) after = without ended pages
with_record pages (Epoch number) after = pages
with_record pages Damaged after = pages

-- A HARMED RECORD LOSES ITS OWN: of the pages that wait, that page alone lacks whose record it was; of a job's end, the pages of that
-- job that stand before it wait again; and those that stand after it wait as before. All have the order that they had.
abbrev pub HarmLosesItsOwn : Type 0
HarmLosesItsOwn = (before after : List SpoolRecord) (r : SpoolRecord)
    → (first last : List PageValue) × (waiting (before ++ Damaged ∷ after) ≡ first ++ last)
    × (waiting (before ++ r ∷ after) ≡ with_record first r after ++ last)

-- the record is that of this page: of its call, and with its number
abbrev pub is_page : PageValue → SpoolRecord → Bool
is_page page (Page other) = same_call page other && nat_eq page.number other.number
is_page page (Ended ended) = false
is_page page (Epoch number) = false
is_page page Damaged = false

-- records tell a page
abbrev pub tell_page : List SpoolRecord → PageValue → Bool
tell_page records page = list_any (is_page page) records

-- no page has two records
abbrev pub ArePutOnce : List SpoolRecord → Type 0
ArePutOnce [] = Unit {0}
ArePutOnce (Page page ∷ records) = (tell_page records page ≡ false) × ArePutOnce records
ArePutOnce (Ended ended ∷ records) = ArePutOnce records
ArePutOnce (Epoch number ∷ records) = ArePutOnce records
ArePutOnce (Damaged ∷ records) = ArePutOnce records

-- the pages of a job: one after the other in one call, counted from 1, of which the last alone may close
abbrev pub AreOfOneJob : List PageValue → Type 0
AreOfOneJob [] = Unit {0}
AreOfOneJob (page ∷ []) = Unit {0}
AreOfOneJob (page ∷ next ∷ pages) = (0 < page.number)
    × (page.closes ≡ false) × (is_next page (Page next) ≡ true) × AreOfOneJob (next ∷ pages)

-- the records have these pages, in this order
abbrev pub StandInOrder : List PageValue → List SpoolRecord → Type 0
StandInOrder [] records = Unit {0}
StandInOrder (page ∷ pages) [] = ⊥
StandInOrder (page ∷ pages) (r ∷ records) =
    ((r ≡ Page page) × StandInOrder pages records) ⊎ StandInOrder (page ∷ pages) records

-- What is found of records: each one as it was, or a damaged one in place of any number of them, as of those that are passed over.
abbrev pub IsFound : List SpoolRecord → List SpoolRecord → Type 0
IsFound records [] = records ≡ []
IsFound records (f ∷ found) =
    ((rest : List SpoolRecord) × (records ≡ f ∷ rest) × IsFound rest found) ⊎ ((f ≡ Damaged)
    × (lost rest : List SpoolRecord) × (records ≡ lost ++ rest) × IsFound rest found)

-- LOST PAGES TEAR THEIR CALL: where one page of a job is found and another is not, whichever they are, their call is torn.
abbrev pub LostPagesTearTheirCall : Type 0
LostPagesTearTheirCall =
    (records found : List SpoolRecord) (pages : List PageValue) (there lost : PageValue)
    → IsFound records found → ArePutOnce records → AreOfOneJob pages → StandInOrder pages records
    → Contains pages there → Contains pages lost → tell_page found there ≡ true
    → tell_page found lost ≡ false → is_of_any (torn_calls found) lost ≡ true
