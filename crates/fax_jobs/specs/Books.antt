-- The book of jobs: what it has, and what each of its steps makes of it. (This project's profile.)
use Rattle.std.specs.Prelude.{ℕ, ◌<◌, ◌+◌, ◌-◌, Bool, false, ◌&&◌, nat_lt, nat_eq, List, [], ◌∷◌, ◌++◌, length, drop, Option, Some, None, if◌then◌else◌}
use Rattle.fax_pagestore.specs.Pages.{PageValue}
use Rattle.fax_jobs.specs.declared.outcome.Outcome.{Outcome}
use Rattle.fax_jobs.specs.declared.report.Report.{Report}
use Rattle.fax_jobs.specs.Jobs.{JobValue, most_pages}

-- A book: the job that pages still join, those that wait, the first to be closed first, the one that is being sent, and
-- the reports of the last 64 that ended, the oldest first.
pub record Book : Type 0 where
  pub open_job : Option JobValue
  pub waiting : List JobValue
  pub sending : Option JobValue
  pub reports : List Report

-- a book, and how many pages can surely come without memory being asked for
pub record JobsValue : Type 0 where
  pub book : Book
  pub spare : ℕ

abbrev pub new_book : Book
new_book = record { open_job = None; waiting = []; sending = None; reports = [] }

-- a job is opened with its first page
abbrev pub job_of : ℕ → PageValue → JobValue
job_of call page = record { call = call; format = page.format; pages = page ∷ [] }

abbrev pub opened : Book → ℕ → PageValue → Book
opened book call page = record book { open_job = Some (job_of call page) }

-- a page joins the open job
abbrev pub longer : JobValue → PageValue → JobValue
longer job page = record job { pages = job.pages ++ page ∷ [] }

-- a job is open, with fewer than 999 pages
abbrev pub TakesPage : Option JobValue → Type 0
TakesPage None = ⊥
TakesPage (Some job) = length job.pages < most_pages

abbrev pub joined : Option JobValue → PageValue → Option JobValue
joined None page = None
joined (Some job) page = Some (longer job page)

abbrev pub added : Book → PageValue → Book
added book page = record book { open_job = joined book.open_job page }

-- the open job is closed, and waits after the others
abbrev pub after : List JobValue → Option JobValue → List JobValue
after jobs None = jobs
after jobs (Some job) = jobs ++ job ∷ []

abbrev pub closed : Book → Book
closed book = record book { open_job = None; waiting = after book.waiting book.open_job }

-- the job that was closed first is sent
abbrev pub first_of : List JobValue → Option JobValue
first_of [] = None
first_of (job ∷ jobs) = Some job

abbrev pub next_job : Book → Option JobValue
next_job book = first_of book.waiting

abbrev pub taken : Book → Book
taken book = record book { waiting = drop 1 book.waiting; sending = first_of book.waiting }

-- the job that was sent has ended, and is reported; the last 64 reports are kept
abbrev pub kept_reports : ℕ
kept_reports = 64

abbrev pub last_of : ℕ → List Report → List Report
last_of n reports = drop (length reports - n) reports

abbrev pub report_of : JobValue → Outcome → ℕ → Report
report_of job outcome delivered = record {
  call = job.call;
  format = job.format;
  pages = length job.pages;
  delivered = delivered;
  outcome = outcome;
}

abbrev pub reported : List Report → Option JobValue → Outcome → ℕ → List Report
reported reports None outcome delivered = reports
reported reports (Some job) outcome delivered = reports ++ report_of job outcome delivered ∷ []

abbrev pub ended : Book → Outcome → ℕ → Book
ended book outcome delivered = record book {
  sending = None;
  reports = last_of kept_reports (reported book.reports book.sending outcome delivered);
}

-- A CONFIRMED PAGE, of any format, joins the open job where that is of its call and has fewer than 999 pages. Else the open
-- job is closed and another one opened. After EOP the job is closed.
abbrev pub takes_page : JobValue → ℕ → Bool
takes_page job call = nat_eq job.call call && nat_lt (length job.pages) most_pages

abbrev pub joins : Option JobValue → ℕ → Bool
joins None call = false
joins (Some job) call = takes_page job call

abbrev pub with_page : Book → ℕ → PageValue → Book
with_page book call page =
    if joins book.open_job call then added book page else opened (closed book) call page

abbrev pub confirmed : Book → ℕ → PageValue → (closes : Bool) → Book
confirmed book call page closes =
    if closes then closed (with_page book call page) else with_page book call page

-- ROOM for a page, whichever job it comes into: a list for the first page of a new job, a list that takes the pages of the
-- open job and one more, and a place among those that wait for each of these jobs.
abbrev pub page_count : Option JobValue → ℕ
page_count None = 0
page_count (Some job) = length job.pages

abbrev pub open_count : Option JobValue → ℕ
open_count None = 0
open_count (Some job) = 1

pub record HasRoom (open_job : Option JobValue) (waiting places first_room larger_room : ℕ) :
    Type 0 where
  pub first : 0 < first_room
  pub larger : page_count open_job < larger_room
  pub places_left : waiting + open_count open_job < places
