-- Each job that ended is reported once, and the book has the last reports.
use Rattle.std.proofs.Common.{◌≡◌, ℕ, ◌+◌, ◌-◌, ◌≤◌, Bool, true, false, List, [], ◌∷◌, ◌++◌, length, drop, Option, Some, None, refl, sym, ◌∙◌, ap, arith, length-append, length-drop, if◌then◌else◌}
use Rattle.std.proofs.lemmas.List.{drop-drop, drop-append-le}
use Rattle.fax_pagestore.specs.Pages.{PageValue}
use Rattle.fax_jobs.specs.declared.outcome.Outcome.{Outcome}
use Rattle.fax_jobs.specs.declared.report.Report.{Report}
use Rattle.fax_jobs.specs.Jobs.{JobValue}
use Rattle.fax_jobs.specs.Books.{Book, joins, opened, added, closed, with_page, last_of, kept_reports, report_of}
use Rattle.fax_jobs.specs.Pasts.{Confirms, CallEnds, Sends, Ends, Past, new_past, sent_if, ended_if, after_steps, AreReported, HasReports, ReportsEachJob}

one_more : (jobs : List JobValue) (reports : List Report) (job : JobValue) (outcome : Outcome) (delivered : ℕ) → AreReported jobs reports → AreReported (jobs ++ job ∷ []) (reports ++ report_of job outcome delivered ∷ [])
one_more [] [] job outcome delivered a = (refl, refl, refl, tt)
one_more [] (r ∷ reports) job outcome delivered a = absurd a
one_more (j ∷ jobs) [] job outcome delivered a = absurd a
one_more (j ∷ jobs) (r ∷ reports) job outcome delivered a = (a.0, a.1, a.2, one_more jobs reports job outcome delivered a.3)

-- of the last n and one more, the last n are the last n of all
last_more : (n : ℕ) (reports : List Report) (report : Report) → last_of n (last_of n reports ++ report ∷ []) ≡ last_of n (reports ++ report ∷ [])
last_more n reports report =
    let k : ℕ = length reports - n in
    let few : k ≤ length reports = omega arith in
    let one : drop k (reports ++ report ∷ []) ≡ drop k reports ++ report ∷ [] = drop-append-le k reports (report ∷ []) few in
    let m : ℕ = length (drop k reports ++ report ∷ []) - n in
    let a : length (drop k reports ++ report ∷ []) ≡ length (drop k reports) + 1 = length-append (drop k reports) (report ∷ []) in
    let b : length (drop k reports) ≡ length reports - k = length-drop k reports in
    let c : length (reports ++ report ∷ []) ≡ length reports + 1 = length-append reports (report ∷ []) in
    let all : k + m ≡ length (reports ++ report ∷ []) - n = omega arith in
    ap (drop m) (sym one) ∙ drop-drop m k (reports ++ report ∷ []) ∙ ap (λ (i : ℕ). drop i (reports ++ report ∷ [])) all

page_reports : (book : Book) (call : ℕ) (page : PageValue) → (with_page book call page).reports ≡ book.reports
page_reports book call page = by (joins book.open_job call)
  where
    by : (t : Bool) → (if◌then◌else◌ {A = Book} t (added book page) (opened (closed book) call page)).reports ≡ book.reports
    by true = refl
    by false = refl

command_reports : (closes : Bool) (book : Book) → (if◌then◌else◌ {A = Book} closes (closed book) book).reports ≡ book.reports
command_reports true book = refl
command_reports false book = refl

sent_reports : (sending : Option JobValue) (book : Book) → (sent_if sending book).reports ≡ book.reports
sent_reports None book = refl
sent_reports (Some job) book = refl

-- the job that is sent ends
end_comes : (ended : List JobValue) (told : List Report) (o : Option JobValue) (waiting : List JobValue) (sending : Option JobValue) (reports : List Report) (outcome : Outcome) (delivered : ℕ) →
    let book : Book = record { open_job = o; waiting = waiting; sending = sending; reports = reports } in
    AreReported ended told → reports ≡ last_of kept_reports told → HasReports (ended_if sending (record { book = book; ended = ended; reported = told }) outcome delivered)
end_comes ended told o waiting None reports outcome delivered a e = record { each = a; last = e }
end_comes ended told o waiting (Some job) reports outcome delivered a e =
    record {
      each = one_more ended told job outcome delivered a;
      last = ap (λ (rs : List Report). last_of kept_reports (rs ++ report_of job outcome delivered ∷ [])) e ∙ last_more kept_reports told (report_of job outcome delivered);
    }

pub reports_each_job : ReportsEachJob
reports_each_job [] = record { each = tt; last = refl }
reports_each_job (Confirms call page closes ∷ before) =
    let i = reports_each_job before in
    let book : Book = (after_steps new_past before).book in
    record { each = i.each; last = command_reports closes (with_page book call page) ∙ page_reports book call page ∙ i.last }
reports_each_job (CallEnds ∷ before) = let i = reports_each_job before in record { each = i.each; last = i.last }
reports_each_job (Sends ∷ before) =
    let i = reports_each_job before in
    let book : Book = (after_steps new_past before).book in
    record { each = i.each; last = sent_reports book.sending book ∙ i.last }
reports_each_job (Ends outcome delivered ∷ before) =
    let i = reports_each_job before in
    let past : Past = after_steps new_past before in
    end_comes past.ended past.reported past.book.open_job past.book.waiting past.book.sending past.book.reports outcome delivered i.each i.last
