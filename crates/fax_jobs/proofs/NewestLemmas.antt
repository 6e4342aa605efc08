-- The newest page of a book: the page that is confirmed is it, and no step takes it away but the end of its own job.
use Rattle.std.proofs.Common.{◌≡◌, ℕ, suc, ◌-◌, Bool, true, false, List, [], ◌∷◌, ◌++◌, length, drop, slice_get, Option, Some, None, refl, sym, ◌∙◌, ap, arith, length-append, if◌then◌else◌}
use Rattle.fax_pagestore.specs.Pages.{PageValue}
use Rattle.fax_jobs.specs.Jobs.{JobValue}
use Rattle.fax_jobs.specs.Books.{Book, first_of, joins, joined, opened, after, closed, taken, with_page, confirmed}
use Rattle.fax_jobs.specs.Newest.{or_else, closed_last, last_page, newest_page}

-- the last of a list after which one more stands
pub last_after : {A : Type 0} (xs : List A) (x : A) → slice_get (xs ++ x ∷ []) (length (xs ++ x ∷ []) - 1) ≡ Some x
last_after [] x = refl
last_after {A = A} (y ∷ ys) x =
    let size : length (y ∷ (ys ++ x ∷ [])) - 1 ≡ suc (length (ys ++ x ∷ []) - 1) = grind (arith, length-append) in
    ap (slice_get (y ∷ (ys ++ x ∷ []))) size ∙ last_after ys x

some_last : (jobs : List JobValue) (job : JobValue) → (last : JobValue) × (closed_last (job ∷ jobs) ≡ Some last)
some_last [] job = (job, refl)
some_last (next ∷ jobs) job =
    let size : length (job ∷ (next ∷ jobs)) - 1 ≡ suc (length (next ∷ jobs) - 1) = grind (arith) in
    let found = some_last jobs next in
    (found.0, ap (slice_get (job ∷ (next ∷ jobs))) size ∙ found.1)

after_first : (jobs : List JobValue) (job next : JobValue) → closed_last (job ∷ (next ∷ jobs)) ≡ closed_last (next ∷ jobs)
after_first jobs job next =
    let size : length (job ∷ (next ∷ jobs)) - 1 ≡ suc (length (next ∷ jobs) - 1) = grind (arith) in
    ap (slice_get (job ∷ (next ∷ jobs))) size

-- the newest job, but for the one that is being sent
abbrev pub own_job : Book → Option JobValue
own_job book = or_else book.open_job (closed_last book.waiting)

abbrev pub own_page : Book → Option PageValue
own_page book = last_page (own_job book)

pub newest_own : (book : Book) (page : PageValue) → own_page book ≡ Some page → newest_page book ≡ Some page
newest_own book page = by book.open_job (closed_last book.waiting)
  where
    by : (o w : Option JobValue) → last_page (or_else o w) ≡ Some page → last_page (or_else o (or_else w book.sending)) ≡ Some page
    by (Some job) w e = e
    by None (Some job) e = e
    by None None e = let no : None ≡ Some page = e in cc

-- a page joins
join_own : (book : Book) (call : ℕ) (page : PageValue) → own_page (with_page book call page) ≡ Some page
join_own book call page = by book.open_job (joins book.open_job call) refl
  where
    by : (o : Option JobValue) (t : Bool) → joins o call ≡ t → own_page (if◌then◌else◌ {A = Book} t (record book { open_job = joined o page }) (opened (closed book) call page)) ≡ Some page
    by (Some job) true e = last_after job.pages page
    by (Some job) false e = refl
    by None false e = refl
    by None true e = let no : false ≡ true = e in cc

-- the open job is closed
pub close_own : (book : Book) (page : PageValue) → own_page book ≡ Some page → own_page (closed book) ≡ Some page
close_own book page e = by book.open_job e
  where
    by : (o : Option JobValue) → last_page (or_else o (closed_last book.waiting)) ≡ Some page → last_page (closed_last (after book.waiting o)) ≡ Some page
    by None e = e
    by (Some job) e = ap last_page (last_after book.waiting job) ∙ e

-- a page is confirmed
pub confirmed_own : (book : Book) (call : ℕ) (page : PageValue) (closes : Bool) → own_page (confirmed book call page closes) ≡ Some page
confirmed_own book call page true = close_own (with_page book call page) page (join_own book call page)
confirmed_own book call page false = join_own book call page

-- a job begins, where none is being sent
taken_by : (o : Option JobValue) (waiting : List JobValue) → or_else o (or_else (closed_last (drop 1 waiting)) (first_of waiting)) ≡ or_else o (closed_last waiting)
taken_by (Some job) waiting = refl
taken_by None [] = refl
taken_by None (job ∷ []) = refl
taken_by None (job ∷ (next ∷ jobs)) =
    let found = some_last jobs next in
    ap (λ (w : Option JobValue). or_else w (Some job)) found.1 ∙ sym (after_first jobs job next ∙ found.1)

pub taken_newest : (book : Book) (page : PageValue) → own_page book ≡ Some page → newest_page (taken book) ≡ Some page
taken_newest book page e = ap last_page (taken_by book.open_job book.waiting) ∙ e
