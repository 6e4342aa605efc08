-- How many octets of memory the pages of jobs take, as far as lengths say.
use Rattle.std.specs.Prelude.{◌≡◌, ℕ, ◌+◌, ◌<◌, ◌^◌, List, Option, Some, None, All, sum_by}
use Rattle.fax_pagestore.specs.Octets.{octets_of_page}
use Rattle.fax_pagestore.specs.Pages.{PageValue}
use Rattle.fax_jobs.specs.Jobs.{JobValue}
use Rattle.fax_jobs.specs.Books.{Book}

-- those of its pages
unfoldable pub octets_of_pages : List PageValue → ℕ
octets_of_pages pages = sum_by octets_of_page pages

-- a job
abbrev pub octets_of_job : JobValue → ℕ
octets_of_job job = octets_of_pages job.pages

-- the same of a job that may be
abbrev pub octets_of_one : Option JobValue → ℕ
octets_of_one None = 0
octets_of_one (Some job) = octets_of_job job

-- and of jobs
unfoldable pub octets_of_jobs : List JobValue → ℕ
octets_of_jobs jobs = sum_by octets_of_job jobs

-- a book: its open job, those that wait, and the one that is being sent
abbrev pub octets_of_book : Book → ℕ
octets_of_book book =
    octets_of_one book.open_job + octets_of_jobs book.waiting + octets_of_one book.sending

-- WHAT A BOOK COUNTS: so many octets for all of its jobs, of which none takes 2^39
abbrev pub most_of_job : ℕ
most_of_job = 2 ^ 39

abbrev pub IsFew : JobValue → Type 0
IsFew job = octets_of_job job < most_of_job

pub record IsCounted (open_job : Option JobValue)
    (waiting : List JobValue) (sending : Option JobValue) (held : ℕ) : Type 0 where
  pub sum : held ≡ octets_of_one open_job + octets_of_jobs waiting + octets_of_one sending
  pub open_few : octets_of_one open_job < most_of_job
  pub waiting_few : All IsFew waiting
  pub sending_few : octets_of_one sending < most_of_job
