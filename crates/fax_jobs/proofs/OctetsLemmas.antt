-- How many octets pages and jobs take: one more, one less, and the most; what a book counts, over its steps.
use Rattle.std.proofs.Common.{◌≡◌, ℕ, ◌+◌, ◌-◌, ◌*◌, ◌<◌, ◌≤◌, Bool, true, false, cond, List, [], ◌∷◌, ◌++◌, Option, Some, None, All, length, drop, refl, arith, suc}
use Rattle.std.proofs.lemmas.List.Elements.{All-weaker, All-push, All-nil}
use Rattle.std.proofs.lemmas.List.Sums.{sum_by-cons, sum_by_push, sum_by-le}
use Rattle.fax_pagestore.specs.Octets.{octets_of_page}
use Rattle.fax_pagestore.specs.Pages.{PageValue, IsPage}
use Rattle.fax_pagestore.proofs.OctetsLemmas.{octets_of_rows-few}
use Rattle.fax_jobs.specs.Jobs.{JobValue, IsJob}
use Rattle.fax_jobs.specs.declared.outcome.Outcome.{Outcome}
use Rattle.fax_jobs.specs.declared.report.Report.{Report}
use Rattle.fax_jobs.specs.Books.{Book, job_of, longer, after, added, opened, closed, taken, ended, first_of, takes_page, with_page, confirmed}
use Rattle.fax_jobs.specs.Octets.{octets_of_pages, octets_of_job, octets_of_jobs, octets_of_one, octets_of_book, most_of_job, IsFew, IsCounted}

-- ---- pages

pub octets_of_pages-one : (page : PageValue) → octets_of_pages (page ∷ []) ≡ octets_of_page page
unfolding octets_of_pages
octets_of_pages-one page = let e = sum_by-cons octets_of_page page [] in omega arith

pub octets_of_pages-push : (pages : List PageValue) (page : PageValue) → octets_of_pages (pages ++ page ∷ []) ≡ octets_of_pages pages + octets_of_page page
unfolding octets_of_pages
octets_of_pages-push pages page = sum_by_push octets_of_page pages page

pub octets_of_page-le : (page : PageValue) → IsPage page → octets_of_page page ≤ 319810800
octets_of_page-le page is = octets_of_rows-few page.format.width page.rows is.each is.few

pub octets_of_job-few : (job : JobValue) → IsJob job → IsFew job
unfolding octets_of_pages
octets_of_job-few job is =
    let le = sum_by-le octets_of_page 319810800 job.pages (All-weaker IsPage (λ (page : PageValue). octets_of_page page ≤ 319810800) octets_of_page-le job.pages is.are_pages) in
    let few = is.few in
    omega arith

-- ---- jobs

octets_of_jobs-cons : (job : JobValue) (jobs : List JobValue) → octets_of_jobs (job ∷ jobs) ≡ octets_of_job job + octets_of_jobs jobs
unfolding octets_of_jobs
octets_of_jobs-cons job jobs = sum_by-cons octets_of_job job jobs

octets_of_jobs-push : (jobs : List JobValue) (job : JobValue) → octets_of_jobs (jobs ++ job ∷ []) ≡ octets_of_jobs jobs + octets_of_job job
unfolding octets_of_jobs
octets_of_jobs-push jobs job = sum_by_push octets_of_job jobs job

octets_of_jobs-le : (jobs : List JobValue) → All IsFew jobs → octets_of_jobs jobs ≤ length jobs * most_of_job
unfolding octets_of_jobs
octets_of_jobs-le jobs all = sum_by-le octets_of_job most_of_job jobs (All-weaker IsFew (λ (job : JobValue). octets_of_job job ≤ most_of_job) (λ job few. omega arith) jobs all)

-- ---- a book

-- no job
pub counted_new : IsCounted None [] None 0
unfolding octets_of_jobs
counted_new = record { sum = refl; open_few = omega arith; waiting_few = All-nil IsFew; sending_few = omega arith }

-- all of them take no more than this
pub counted_few : (open_job : Option JobValue) (waiting : List JobValue) (sending : Option JobValue) (held : ℕ) → IsCounted open_job waiting sending held
    → held < (length waiting + 2) * most_of_job
counted_few open_job waiting sending held is =
    let le = octets_of_jobs-le waiting is.waiting_few in
    let sum = is.sum in
    let first = is.open_few in
    let last = is.sending_few in
    omega arith

-- a page joins the open job
pub counted_added : (job : JobValue) (waiting : List JobValue) (sending : Option JobValue) (held : ℕ) (page : PageValue) → IsCounted (Some job) waiting sending held
    → IsFew (longer job page) → IsCounted (Some (longer job page)) waiting sending (held + octets_of_page page)
counted_added job waiting sending held page is few =
    let more = octets_of_pages-push job.pages page in
    let sum = is.sum in
    record { sum = omega arith; open_few = few; waiting_few = is.waiting_few; sending_few = is.sending_few }

-- the open job is closed
pub counted_closed : (job : JobValue) (waiting : List JobValue) (sending : Option JobValue) (held : ℕ) → IsCounted (Some job) waiting sending held
    → IsCounted None (waiting ++ job ∷ []) sending held
counted_closed job waiting sending held is =
    let more = octets_of_jobs-push waiting job in
    let sum = is.sum in
    record { sum = omega arith; open_few = omega arith; waiting_few = All-push IsFew waiting job is.waiting_few is.open_few; sending_few = is.sending_few }

-- another job is opened where none is open
counted_begun : (waiting : List JobValue) (sending : Option JobValue) (held : ℕ) (call : ℕ) (page : PageValue) → IsCounted None waiting sending held → octets_of_page page < most_of_job
    → IsCounted (Some (job_of call page)) waiting sending (held + octets_of_page page)
counted_begun waiting sending held call page is few =
    let one = octets_of_pages-one page in
    let sum = is.sum in
    record { sum = omega arith; open_few = omega arith; waiting_few = is.waiting_few; sending_few = is.sending_few }

-- and where one is
pub counted_opened : (open_job : Option JobValue) (waiting : List JobValue) (sending : Option JobValue) (held : ℕ) (call : ℕ) (page : PageValue)
    → IsCounted open_job waiting sending held → octets_of_page page < most_of_job → IsCounted (Some (job_of call page)) (after waiting open_job) sending (held + octets_of_page page)
counted_opened None waiting sending held call page is few = counted_begun waiting sending held call page is few
counted_opened (Some job) waiting sending held call page is few =
    counted_begun (waiting ++ job ∷ []) sending held call page (counted_closed job waiting sending held is) few

-- the first that waits is sent
pub counted_taken : (open_job : Option JobValue) (waiting : List JobValue) (held : ℕ) → IsCounted open_job waiting None held
    → IsCounted open_job (drop 1 waiting) (first_of waiting) held
counted_taken open_job [] held is = is
counted_taken open_job (job ∷ jobs) held is =
    let more = octets_of_jobs-cons job jobs in
    let sum = is.sum in
    record {
      sum = omega arith;
      open_few = is.open_few;
      waiting_few = λ k d lt. is.waiting_few (suc k) d (omega arith);
      sending_few = is.waiting_few 0 job (omega arith);
    }

-- the one that is sent has ended
pub counted_ended : (open_job : Option JobValue) (waiting : List JobValue) (job : JobValue) (held : ℕ) → IsCounted open_job waiting (Some job) held
    → IsCounted open_job waiting None (held - octets_of_job job)
counted_ended open_job waiting job held is =
    let sum = is.sum in
    record { sum = omega arith; open_few = is.open_few; waiting_few = is.waiting_few; sending_few = omega arith }

-- it took no more than all
pub sent_within : (open_job : Option JobValue) (waiting : List JobValue) (job : JobValue) (held : ℕ) → IsCounted open_job waiting (Some job) held → octets_of_job job ≤ held
sent_within open_job waiting job held is = let sum = is.sum in omega arith

-- ---- what steps make of the octets of a book

octets_of_after : (open_job : Option JobValue) (waiting : List JobValue) → octets_of_jobs (after waiting open_job) ≡ octets_of_one open_job + octets_of_jobs waiting
octets_of_after None waiting = omega arith
octets_of_after (Some job) waiting = let more = octets_of_jobs-push waiting job in omega arith

-- a job that is closed takes the same
pub octets_of_closed : (book : Book) → octets_of_book (closed book) ≡ octets_of_book book
octets_of_closed book = let more = octets_of_after book.open_job book.waiting in omega arith

-- a page that joins, or opens a job, is one more
octets_joined : (is_joined : Bool) (job : JobValue) (waiting : List JobValue) (sending : Option JobValue) (reports : List Report) (call : ℕ) (page : PageValue)
    → let book : Book = record { open_job = Some job; waiting = waiting; sending = sending; reports = reports } in
    octets_of_book (cond is_joined (added book page) (opened (closed book) call page)) ≡ octets_of_book book + octets_of_page page
octets_joined true job waiting sending reports call page = let more = octets_of_pages-push job.pages page in omega arith
octets_joined false job waiting sending reports call page = let one = octets_of_pages-one page in let more = octets_of_jobs-push waiting job in omega arith

octets_with : (open_job : Option JobValue) (waiting : List JobValue) (sending : Option JobValue) (reports : List Report) (call : ℕ) (page : PageValue)
    → let book : Book = record { open_job = open_job; waiting = waiting; sending = sending; reports = reports } in
    octets_of_book (with_page book call page) ≡ octets_of_book book + octets_of_page page
octets_with None waiting sending reports call page = let one = octets_of_pages-one page in omega arith
octets_with (Some job) waiting sending reports call page = octets_joined (takes_page job call) job waiting sending reports call page

pub octets_of_confirmed : (book : Book) (call : ℕ) (page : PageValue) (closes : Bool) → octets_of_book (confirmed book call page closes) ≡ octets_of_book book + octets_of_page page
octets_of_confirmed book call page true =
    let more = octets_with book.open_job book.waiting book.sending book.reports call page in
    let same = octets_of_closed (with_page book call page) in
    omega arith
octets_of_confirmed book call page false = octets_with book.open_job book.waiting book.sending book.reports call page

-- a job that is sent in place of one takes no more, nor do those that are left where one ends
octets_of_first : (jobs : List JobValue) → octets_of_jobs (drop 1 jobs) + octets_of_one (first_of jobs) ≡ octets_of_jobs jobs
octets_of_first [] = omega arith
octets_of_first (job ∷ jobs) = let more = octets_of_jobs-cons job jobs in omega arith

pub octets_of_taken : (book : Book) → octets_of_book (taken book) ≤ octets_of_book book
octets_of_taken book = let first = octets_of_first book.waiting in omega arith

pub octets_of_ended : (book : Book) (outcome : Outcome) (delivered : ℕ) → octets_of_book (ended book outcome delivered) ≤ octets_of_book book
octets_of_ended book outcome delivered = omega arith
