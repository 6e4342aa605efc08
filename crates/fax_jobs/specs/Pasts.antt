-- What a book has led to: the confirmations that came and the jobs that ended, over all of its steps.
use Rattle.std.specs.Prelude.{◌≡◌, ℕ, Bool, List, [], ◌∷◌, ◌++◌, length, Option, Some, None}
use Rattle.fax_pagestore.specs.Pages.{PageValue}
use Rattle.fax_jobs.specs.declared.outcome.Outcome.{Outcome}
use Rattle.fax_jobs.specs.declared.report.Report.{Report}
use Rattle.fax_jobs.specs.Jobs.{JobValue}
use Rattle.fax_jobs.specs.Books.{Book, new_book, confirmed, closed, taken, ended, report_of, last_of, kept_reports}

-- a step of the book: a page is confirmed, a call ends, the job that was closed first is sent, the job that is sent ends
pub data Step : Type 0 where
  Confirms : (call : ℕ) → (page : PageValue) → (closes : Bool) → Step
  CallEnds : Step
  Sends : Step
  Ends : (outcome : Outcome) → (delivered : ℕ) → Step

-- a book with all the jobs that ended and all their reports, in their order
pub record Past : Type 0 where
  pub book : Book
  pub ended : List JobValue
  pub reported : List Report

abbrev pub new_past : Past
new_past = record { book = new_book; ended = []; reported = [] }

abbrev pub as_list : Option JobValue → List JobValue
as_list None = []
as_list (Some job) = job ∷ []

-- a job is sent where none is, and ends where one is sent
abbrev pub sent_if : Option JobValue → Book → Book
sent_if None book = taken book
sent_if (Some job) book = book

abbrev pub ended_if : Option JobValue → Past → Outcome → ℕ → Past
ended_if None past outcome delivered = past
ended_if (Some job) past outcome delivered =
    record {
      book = ended past.book outcome delivered;
      ended = past.ended ++ job ∷ [];
      reported = past.reported ++ report_of job outcome delivered ∷ [];
    }

abbrev pub after_step : Past → Step → Past
after_step past (Confirms call page closes) =
    record past { book = confirmed past.book call page closes }
after_step past CallEnds = record past { book = closed past.book }
after_step past Sends = record past { book = sent_if past.book.sending past.book }
after_step past (Ends outcome delivered) = ended_if past.book.sending past outcome delivered

-- after these steps, the newest first
abbrev pub after_steps : Past → List Step → Past
after_steps past [] = past
after_steps past (step ∷ before) = after_step (after_steps past before) step

-- the jobs that were closed so far, in the order in which they were: those that ended, the one that is sent, those that wait
abbrev pub jobs_of : Past → List JobValue
jobs_of past = past.ended ++ (as_list past.book.sending ++ past.book.waiting)

-- each job that ended has one report, with its call, its format and the number of its pages
abbrev pub AreReported : List JobValue → List Report → Type 0
AreReported [] [] = Unit {0}
AreReported (job ∷ jobs) (report ∷ reports) = (report.call ≡ job.call)
    × (report.format ≡ job.format) × (report.pages ≡ length job.pages) × AreReported jobs reports
AreReported jobs reports = ⊥

-- Over all steps from a new book: each job that ended was reported once, in order, and the book has the last 64 reports.
pub record HasReports (past : Past) : Type 0 where
  pub each : AreReported past.ended past.reported
  pub last : past.book.reports ≡ last_of kept_reports past.reported

abbrev pub ReportsEachJob : Type 0
ReportsEachJob = (steps : List Step) → HasReports (after_steps new_past steps)
