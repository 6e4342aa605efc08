-- What holds of each page that a book's steps confirm holds of each page of its jobs.
use Rattle.std.proofs.Common.{◌≡◌, ℕ, zero, suc, ◌+◌, ◌<◌, ◌≤◌, Bool, true, false, ◌&&◌, nat_eq, nat_lt, List, [], ◌∷◌, ◌++◌, length, slice_get, drop, Option, Some, None, refl, subst, arith, length-append, if◌then◌else◌}
use Rattle.std.proofs.lemmas.List.Elements.{All-nil, All-cons}
use Rattle.fax_pagestore.specs.Pages.{PageValue, IsPage}
use Rattle.fax_jobs.specs.declared.outcome.Outcome.{Outcome}
use Rattle.fax_jobs.specs.Jobs.{JobValue, IsJob, most_pages}
use Rattle.fax_jobs.specs.Books.{Book, job_of, longer, takes_page, joins, joined, added, opened, closed, after, first_of, with_page}
use Rattle.fax_jobs.specs.Pasts.{Step, Confirms, CallEnds, Sends, Ends, Past, new_past, sent_if, ended_if, after_steps}
use Rattle.fax_jobs.proofs.FirstFormat.{grown}
use Rattle.fax_jobs.proofs.TakenPages.{taken_page}

abbrev pub EachPage : (PageValue → Type 0) → List PageValue → Type 0
EachPage P [] = Unit {0}
EachPage P (page ∷ pages) = P page × EachPage P pages

pub page_at : (P : PageValue → Type 0) (pages : List PageValue) (n : ℕ) (page : PageValue) → EachPage P pages → slice_get pages n ≡ Some page → P page
page_at P [] n page e h = cc
page_at P (p ∷ pages) zero page e h = let same : p ≡ page = cc in subst P same e.0
page_at P (p ∷ pages) (suc n) page e h = page_at P pages n page e.1 h

page_more : (P : PageValue → Type 0) (pages : List PageValue) (page : PageValue) → EachPage P pages → P page → EachPage P (pages ++ page ∷ [])
page_more P [] page e h = (h, tt)
page_more P (p ∷ pages) page e h = (e.0, page_more P pages page e.1 h)

-- a job, and what holds of its pages
pub record Holds (P : ℕ → PageValue → Type 0) (job : JobValue) : Type 0 where
  pub is_job : IsJob job
  pub pages : EachPage (P job.call) job.pages

abbrev pub IfHolds : (ℕ → PageValue → Type 0) → Option JobValue → Type 0
IfHolds P None = Unit {0}
IfHolds P (Some job) = Holds P job

abbrev pub AllHold : (ℕ → PageValue → Type 0) → List JobValue → Type 0
AllHold P [] = Unit {0}
AllHold P (job ∷ jobs) = Holds P job × AllHold P jobs

pub record BookHolds (P : ℕ → PageValue → Type 0) (book : Book) : Type 0 where
  pub open_job : IfHolds P book.open_job
  pub waiting : AllHold P book.waiting
  pub sending : IfHolds P book.sending

-- a job is opened, and grows
opens : (P : ℕ → PageValue → Type 0) (call : ℕ) (page : PageValue) → P call page → IsPage page → Holds P (job_of call page)
opens P call page h is =
    record {
      is_job = record { some = omega arith; few = omega arith; of_first = refl; are_pages = All-cons IsPage page [] is (All-nil IsPage) };
      pages = (h, tt);
    }

both : (a b : Bool) → (a && b) ≡ true → a ≡ true
both true b h = refl
both false b h = cc

same_call : (m n : ℕ) → nat_eq m n ≡ true → n ≡ m
same_call m n h = grind (arith)

grows : (P : ℕ → PageValue → Type 0) (job : JobValue) (call : ℕ) (page : PageValue) → takes_page job call ≡ true → P call page → IsPage page → Holds P job → Holds P (longer job page)
grows P job call page t h is k =
    let e : call ≡ job.call = same_call job.call call (both (nat_eq job.call call) (nat_lt (length job.pages) most_pages) t) in
    record {
      is_job = grown job.call job.format job.pages page k.is_job (taken_page job call t) is;
      pages = page_more (P job.call) job.pages page k.pages (subst (λ (n : ℕ). P n page) e h);
    }

joined_holds : (P : ℕ → PageValue → Type 0) (o : Option JobValue) (call : ℕ) (page : PageValue) → joins o call ≡ true → P call page → IsPage page → IfHolds P o → IfHolds P (joined o page)
joined_holds P None call page t h is k = tt
joined_holds P (Some job) call page t h is k = grows P job call page t h is k

after_holds : (P : ℕ → PageValue → Type 0) (jobs : List JobValue) (o : Option JobValue) → AllHold P jobs → IfHolds P o → AllHold P (after jobs o)
after_holds P jobs None a h = a
after_holds P [] (Some job) a h = (h, tt)
after_holds P (j ∷ jobs) (Some job) a h = (a.0, after_holds P jobs (Some job) a.1 h)

closed_holds : (P : ℕ → PageValue → Type 0) (book : Book) → BookHolds P book → BookHolds P (closed book)
closed_holds P book b = record { open_job = tt; waiting = after_holds P book.waiting book.open_job b.waiting b.open_job; sending = b.sending }

page_holds : (P : ℕ → PageValue → Type 0) (book : Book) (call : ℕ) (page : PageValue) → P call page → IsPage page → BookHolds P book → BookHolds P (with_page book call page)
page_holds P book call page h is b = by (joins book.open_job call) refl
  where
    by : (t : Bool) → joins book.open_job call ≡ t → BookHolds P (if◌then◌else◌ {A = Book} t (added book page) (opened (closed book) call page))
    by true e = record { open_job = joined_holds P book.open_job call page e h is b.open_job; waiting = b.waiting; sending = b.sending }
    by false e = record { open_job = opens P call page h is; waiting = (closed_holds P book b).waiting; sending = b.sending }

command_holds : (P : ℕ → PageValue → Type 0) (closes : Bool) (book : Book) → BookHolds P book → BookHolds P (if◌then◌else◌ {A = Book} closes (closed book) book)
command_holds P true book b = closed_holds P book b
command_holds P false book b = b

first_holds : (P : ℕ → PageValue → Type 0) (jobs : List JobValue) → AllHold P jobs → IfHolds P (first_of jobs)
first_holds P [] a = tt
first_holds P (job ∷ jobs) a = a.0

rest_holds : (P : ℕ → PageValue → Type 0) (jobs : List JobValue) → AllHold P jobs → AllHold P (drop 1 jobs)
rest_holds P [] a = tt
rest_holds P (job ∷ jobs) a = a.1

sent_holds : (P : ℕ → PageValue → Type 0) (o : Option JobValue) (book : Book) → BookHolds P book → BookHolds P (sent_if o book)
sent_holds P None book b = record { open_job = b.open_job; waiting = rest_holds P book.waiting b.waiting; sending = first_holds P book.waiting b.waiting }
sent_holds P (Some job) book b = b

ended_holds : (P : ℕ → PageValue → Type 0) (o : Option JobValue) (past : Past) (outcome : Outcome) (delivered : ℕ) → BookHolds P past.book → BookHolds P (ended_if o past outcome delivered).book
ended_holds P None past outcome delivered b = b
ended_holds P (Some job) past outcome delivered b = record { open_job = b.open_job; waiting = b.waiting; sending = tt }

-- what holds of each page that is confirmed
abbrev pub StepsHold : (ℕ → PageValue → Type 0) → List Step → Type 0
StepsHold P [] = Unit {0}
StepsHold P (Confirms call page closes ∷ before) = P call page × (IsPage page × StepsHold P before)
StepsHold P (CallEnds ∷ before) = StepsHold P before
StepsHold P (Sends ∷ before) = StepsHold P before
StepsHold P (Ends outcome delivered ∷ before) = StepsHold P before

pub steps_map : (P Q : ℕ → PageValue → Type 0) (steps : List Step) → ((call : ℕ) (page : PageValue) → P call page → Q call page) → StepsHold P steps → StepsHold Q steps
steps_map P Q [] f h = tt
steps_map P Q (Confirms call page closes ∷ before) f h = (f call page h.0, (h.1.0, steps_map P Q before f h.1.1))
steps_map P Q (CallEnds ∷ before) f h = steps_map P Q before f h
steps_map P Q (Sends ∷ before) f h = steps_map P Q before f h
steps_map P Q (Ends outcome delivered ∷ before) f h = steps_map P Q before f h

pub held : (P : ℕ → PageValue → Type 0) (steps : List Step) → StepsHold P steps → BookHolds P (after_steps new_past steps).book
held P [] h = record { open_job = tt; waiting = tt; sending = tt }
held P (Confirms call page closes ∷ before) h =
    let book : Book = (after_steps new_past before).book in
    command_holds P closes (with_page book call page) (page_holds P book call page h.0 h.1.0 (held P before h.1.1))
held P (CallEnds ∷ before) h = closed_holds P (after_steps new_past before).book (held P before h)
held P (Sends ∷ before) h = let book : Book = (after_steps new_past before).book in sent_holds P book.sending book (held P before h)
held P (Ends outcome delivered ∷ before) h =
    let past : Past = after_steps new_past before in ended_holds P past.book.sending past outcome delivered (held P before h)
