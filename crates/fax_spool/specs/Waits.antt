-- Which pages wait, by the records of a spool. (This project's profile.)
use Rattle.std.specs.Prelude.{◌≡◌, ℕ, List, [], ◌∷◌, ◌++◌, ◌+◌, Bool, not, ◌&&◌, nat_eq, nat_le, nat_lt, bytes_eq}
use Rattle.std.specs.List.{filter}
use Rattle.fax_spool.specs.RecordOctets.{PageValue, EndedValue}
use Rattle.fax_spool.specs.declared.spool_record.SpoolRecord.{SpoolRecord}
use Rattle.fax_spool.specs.declared.spool_record.SpoolRecord.TheVariants.{Page, Ended, Epoch, Damaged}

-- which page of all: in which life and call of which line, and as which page of the call
pub record PageName : Type 0 where
  pub life : ℕ
  pub call : ℕ
  pub number : ℕ
  pub line : List ℕ

abbrev pub name_of : PageValue → PageName
name_of page = record { life = page.life; call = page.call; number = page.number; line = page.line }

-- the job that ended had this page
abbrev pub ends : EndedValue → PageName → Bool
ends ended page =
    nat_eq ended.life page.life && nat_eq ended.call page.call && bytes_eq ended.line page.line
    && nat_le ended.first page.number && nat_lt page.number (ended.first + ended.pages)

-- of these pages, those that the job that ended had not
abbrev pub without : EndedValue → List PageValue → List PageValue
without ended pages = filter (λ page. not (ends ended (name_of page))) pages

-- those that none of these jobs had
abbrev pub without_all : List EndedValue → List PageValue → List PageValue
without_all [] pages = pages
without_all (ended ∷ others) pages = without_all others (without ended pages)

-- of these pages, those that the job that ended had
abbrev pub ended_by : EndedValue → List PageValue → List PageValue
ended_by ended pages = filter (λ page. ends ended (name_of page)) pages

abbrev pub left_of : List PageValue → SpoolRecord → List PageValue
left_of pages (Page page) = pages
left_of pages (Ended ended) = without ended pages
left_of pages (Epoch number) = pages
left_of pages Damaged = pages

-- a page that is put waits after the others
abbrev pub after : List PageValue → SpoolRecord → List PageValue
after pages (Page page) = pages ++ page ∷ []
after pages (Ended ended) = without ended pages
after pages (Epoch number) = pages
after pages Damaged = pages

-- of these pages, those that wait still after these records
abbrev pub left_after : List PageValue → List SpoolRecord → List PageValue
left_after pages [] = pages
left_after pages (r ∷ records) = left_after (left_of pages r) records

-- A page waits from its record on, up to the record of the end of its job. These wait after these records, where some waited
-- before them.
abbrev pub waiting_after : List PageValue → List SpoolRecord → List PageValue
waiting_after pages [] = pages
waiting_after pages (r ∷ records) = waiting_after (after pages r) records

abbrev pub waiting : List SpoolRecord → List PageValue
waiting records = waiting_after [] records

-- what waits by records, and by others after them
abbrev pub SharesWhatWaits : Type 0
SharesWhatWaits = (olds news : List SpoolRecord)
    → waiting (olds ++ news) ≡ left_after (waiting olds) news ++ waiting news
