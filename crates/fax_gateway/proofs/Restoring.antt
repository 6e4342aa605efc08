-- What a gateway begins with: the steps of restored calls.
use Rattle.std.proofs.Common.{◌≡◌, ℕ, zero, suc, ◌+◌, Bool, true, false, List, [], ◌∷◌, ◌++◌, inl, inr, length, Option, None, refl, sym, ◌∙◌, ap, subst, arith, append_assoc, if◌then◌else◌}
use Rattle.fax_pagestore.specs.Pages.{PageValue}
use Rattle.fax_jobs.specs.declared.report.Report.{Report}
use Rattle.fax_jobs.specs.Jobs.{JobValue}
use Rattle.fax_jobs.specs.Books.{Book, joins, added, opened, closed, with_page}
use Rattle.fax_jobs.specs.Pasts.{Step, Confirms, CallEnds, Past, new_past, after_step, after_steps, jobs_of}
use Rattle.fax_jobs.specs.Cuts.{Confirmation, confirmations, AreInCall, IsCutOf}
use Rattle.fax_jobs.proofs.CallCuts.{cuts_each_call}
use Rattle.fax_gateway.specs.Restored.{RestoredCall, CallPage, pages_with, pages_restored, ArePages, confirms_all, restores, confirmed_all, restored_to}
use Rattle.fax_gateway.specs.Cuts.{AreCutsOfRestored}
use Rattle.fax_gateway.specs.Forwards.{OrRestored}
use Rattle.fax_gateway.specs.OwnConfirmations.{HasNumber}
use Rattle.fax_gateway.proofs.Held.{StepsHold}

-- THE BOOK
confirmed_book : (number : ℕ) (cs : List Confirmation) (steps : List Step) → (after_steps new_past (confirms_all number cs steps)).book ≡ confirmed_all (after_steps new_past steps).book number cs
confirmed_book number [] steps = refl
confirmed_book number (c ∷ cs) steps = confirmed_book number cs (Confirms number c.page c.closes ∷ steps)

pub restored_book : (calls : List RestoredCall) (steps : List Step) → (after_steps new_past (restores calls steps)).book ≡ restored_to (after_steps new_past steps).book calls
restored_book [] steps = refl
restored_book (call ∷ calls) steps =
    restored_book calls (CallEnds ∷ confirms_all call.number call.confirmed steps)
    ∙ ap (λ (book : Book). restored_to (closed book) calls) (confirmed_book call.number call.confirmed steps)

-- no job is sent by them, and none is reported
page_sends : (book : Book) (call : ℕ) (page : PageValue) → (with_page book call page).sending ≡ book.sending
page_sends book call page = by (joins book.open_job call)
  where
    by : (t : Bool) → (if◌then◌else◌ {A = Book} t (added book page) (opened (closed book) call page)).sending ≡ book.sending
    by true = refl
    by false = refl

command_sends : (closes : Bool) (book : Book) → (if◌then◌else◌ {A = Book} closes (closed book) book).sending ≡ book.sending
command_sends true book = refl
command_sends false book = refl

abbrev sent_by : List Step → Option JobValue
sent_by steps = (after_steps new_past steps).book.sending

confirmed_sends : (number : ℕ) (cs : List Confirmation) (steps : List Step) → sent_by (confirms_all number cs steps) ≡ sent_by steps
confirmed_sends number [] steps = refl
confirmed_sends number (c ∷ cs) steps =
    let book : Book = (after_steps new_past steps).book in
    confirmed_sends number cs (Confirms number c.page c.closes ∷ steps) ∙ command_sends c.closes (with_page book number c.page) ∙ page_sends book number c.page

pub restored_sends : (calls : List RestoredCall) (steps : List Step) → (after_steps new_past (restores calls steps)).book.sending ≡ (after_steps new_past steps).book.sending
restored_sends [] steps = refl
restored_sends (call ∷ calls) steps =
    restored_sends calls (CallEnds ∷ confirms_all call.number call.confirmed steps) ∙ confirmed_sends call.number call.confirmed steps

abbrev reported_by : List Step → List Report
reported_by steps = (after_steps new_past steps).reported

confirmed_reports : (number : ℕ) (cs : List Confirmation) (steps : List Step) → reported_by (confirms_all number cs steps) ≡ reported_by steps
confirmed_reports number [] steps = refl
confirmed_reports number (c ∷ cs) steps = confirmed_reports number cs (Confirms number c.page c.closes ∷ steps)

pub restored_reports : (calls : List RestoredCall) (steps : List Step) → (after_steps new_past (restores calls steps)).reported ≡ (after_steps new_past steps).reported
restored_reports [] steps = refl
restored_reports (call ∷ calls) steps =
    restored_reports calls (CallEnds ∷ confirms_all call.number call.confirmed steps) ∙ confirmed_reports call.number call.confirmed steps

-- THEIR PAGES
pub are_both : (rs others : List CallPage) → ArePages rs → ArePages others → ArePages (rs ++ others)
are_both [] others a b = b
are_both (r ∷ rs) others a b = (a.0, are_both rs others a.1 b)

-- WHAT HOLDS OF EACH PAGE
abbrev pub EachPage : (ℕ → PageValue → Type 0) → List CallPage → Type 0
EachPage P [] = Unit {0}
EachPage P (r ∷ rs) = P r.call r.page × EachPage P rs

pub each_map : (P Q : ℕ → PageValue → Type 0) (rs : List CallPage) → ((call : ℕ) (page : PageValue) → P call page → Q call page) → EachPage P rs → EachPage Q rs
each_map P Q [] f e = tt
each_map P Q (r ∷ rs) f e = (f r.call r.page e.0, each_map P Q rs f e.1)

pub each_front : (P : ℕ → PageValue → Type 0) (rs others : List CallPage) → EachPage P (rs ++ others) → EachPage P rs × EachPage P others
each_front P [] others e = (tt, e)
each_front P (r ∷ rs) others e = let i = each_front P rs others e.1 in ((e.0, i.0), i.1)

pub each_both : (P : ℕ → PageValue → Type 0) (rs others : List CallPage) → EachPage P rs → EachPage P others → EachPage P (rs ++ others)
each_both P [] others a b = b
each_both P (r ∷ rs) others a b = (a.0, each_both P rs others a.1 b)

are_front : (rs others : List CallPage) → ArePages (rs ++ others) → ArePages rs × ArePages others
are_front [] others a = (tt, a)
are_front (r ∷ rs) others a = let i = are_front rs others a.1 in ((a.0, i.0), i.1)

confirmed_hold : (P : ℕ → PageValue → Type 0) (number : ℕ) (cs : List Confirmation) (steps : List Step) → EachPage P (pages_with number cs) → ArePages (pages_with number cs) → StepsHold P steps → StepsHold P (confirms_all number cs steps)
confirmed_hold P number [] steps e a h = h
confirmed_hold P number (c ∷ cs) steps e a h = confirmed_hold P number cs (Confirms number c.page c.closes ∷ steps) e.1 a.1 (e.0, (a.0, h))

pub restored_hold : (P : ℕ → PageValue → Type 0) (calls : List RestoredCall) (steps : List Step) → EachPage P (pages_restored calls) → ArePages (pages_restored calls) → StepsHold P steps → StepsHold P (restores calls steps)
restored_hold P [] steps e a h = h
restored_hold P (call ∷ calls) steps e a h =
    let own : List CallPage = pages_with call.number call.confirmed in
    let f = each_front P own (pages_restored calls) e in
    let b = are_front own (pages_restored calls) a in
    restored_hold P calls (CallEnds ∷ confirms_all call.number call.confirmed steps) f.1 b.1 (confirmed_hold P call.number call.confirmed steps f.0 b.0 h)

-- a restored page is one, whatever else
pub or_own : (rs : List CallPage) (call : ℕ) (page : PageValue) (A : Type 0) → A → OrRestored rs call page A
or_own [] call page A a = a
or_own (r ∷ rs) call page A a = inr (or_own rs call page A a)

pub or_map : (rs : List CallPage) (call : ℕ) (page : PageValue) (A B : Type 0) → (A → B) → OrRestored rs call page A → OrRestored rs call page B
or_map [] call page A B f o = f o
or_map (r ∷ rs) call page A B f (inl e) = inl e
or_map (r ∷ rs) call page A B f (inr o) = inr (or_map rs call page A B f o)

pub each_restored : (A : ℕ → PageValue → Type 0) (rs : List CallPage) → EachPage (λ call page. OrRestored rs call page (A call page)) rs
each_restored A [] = tt
each_restored A (r ∷ rs) =
    (inl refl, each_map (λ call page. OrRestored rs call page (A call page)) (λ call page. OrRestored (r ∷ rs) call page (A call page)) rs (λ call page o. inr o) (each_restored A rs))

-- ITS NUMBER
abbrev pub EachAt : (ℕ → ℕ → PageValue → Type 0) → ℕ → List CallPage → Type 0
EachAt P k [] = Unit {0}
EachAt P k (r ∷ rs) = P k r.call r.page × EachAt P (suc k) rs

each_shift : (P Q : ℕ → ℕ → PageValue → Type 0) (k : ℕ) (rs : List CallPage) → ((k call : ℕ) (page : PageValue) → P k call page → Q (suc k) call page) → EachAt P k rs → EachAt Q (suc k) rs
each_shift P Q k [] f e = tt
each_shift P Q k (r ∷ rs) f e = (f k r.call r.page e.0, each_shift P Q (suc k) rs f e.1)

pub each_number : (Own : ℕ → PageValue → ℕ → Type 0) (rs : List CallPage) → EachAt (λ k call page. HasNumber rs k call page (Own call page)) 0 rs
each_number Own [] = tt
each_number Own (r ∷ rs) =
    (refl, each_shift (λ k call page. HasNumber rs k call page (Own call page)) (λ k call page. HasNumber (r ∷ rs) k call page (Own call page)) 0 rs (λ k call page h. h) (each_number Own rs))

pub number_after : (rs : List CallPage) (k call : ℕ) (page : PageValue) (Own : ℕ → Type 0) → Own k → HasNumber rs (length rs + k) call page Own
number_after [] k call page Own a = subst Own (let e : k ≡ 0 + k = omega arith in e) a
number_after (r ∷ rs) k call page Own a =
    subst (λ (n : ℕ). HasNumber (r ∷ rs) n call page Own) (let e : suc (length rs + k) ≡ length (r ∷ rs) + k = omega arith in e) (number_after rs k call page Own a)

pub number_map : (rs : List CallPage) (k call : ℕ) (page : PageValue) (Own Other : ℕ → Type 0) → ((k : ℕ) → Own k → Other k) → HasNumber rs k call page Own → HasNumber rs k call page Other
number_map [] k call page Own Other f h = f k h
number_map (r ∷ rs) zero call page Own Other f h = h
number_map (r ∷ rs) (suc k) call page Own Other f h = number_map rs k call page Own Other f h

-- THE CUTS
confirms_since : (old : Past) (number : ℕ) (cs : List Confirmation) (steps since : List Step) → after_steps new_past steps ≡ after_steps old since →
    after_steps new_past (confirms_all number cs steps) ≡ after_steps old (confirms_all number cs since)
confirms_since old number [] steps since e = e
confirms_since old number (c ∷ cs) steps since e =
    let step : Step = Confirms number c.page c.closes in
    confirms_since old number cs (step ∷ steps) (step ∷ since) (ap (λ (p : Past). after_step p step) e)

all_in_call : (number : ℕ) (cs : List Confirmation) (since : List Step) → AreInCall number since → AreInCall number (confirms_all number cs since)
all_in_call number [] since i = i
all_in_call number (c ∷ cs) since i = all_in_call number cs (Confirms number c.page c.closes ∷ since) (refl, i)

all_confirmed : (number : ℕ) (cs : List Confirmation) (since : List Step) → confirmations (confirms_all number cs since) ≡ confirmations since ++ cs
all_confirmed number [] since = sym (none (confirmations since))
  where
    none : (xs : List Confirmation) → xs ++ [] ≡ xs
    none [] = refl
    none (x ∷ xs) = ap (λ (ys : List Confirmation). x ∷ ys) (none xs)
all_confirmed number (c ∷ cs) since =
    all_confirmed number cs (Confirms number c.page c.closes ∷ since) ∙ append_assoc (confirmations since) (c ∷ []) cs

pub record AreCut (calls : List RestoredCall) (old new : Past) : Type 0 where
  pub jobs : List JobValue
  pub jobs_are : jobs_of new ≡ jobs_of old ++ jobs
  pub cut : AreCutsOfRestored calls jobs
  pub none_open : new.book.open_job ≡ None

pub restored_cut : (calls : List RestoredCall) (steps : List Step) → (after_steps new_past steps).book.open_job ≡ None → AreCut calls (after_steps new_past steps) (after_steps new_past (restores calls steps))
restored_cut [] steps o = record { jobs = []; jobs_are = sym (none (jobs_of (after_steps new_past steps))); cut = refl; none_open = o }
  where
    none : (xs : List JobValue) → xs ++ [] ≡ xs
    none [] = refl
    none (x ∷ xs) = ap (λ (ys : List JobValue). x ∷ ys) (none xs)
restored_cut (call ∷ calls) steps o =
    let n : ℕ = call.number in
    let cs : List Confirmation = call.confirmed in
    let old : Past = after_steps new_past steps in
    let mid : List Step = CallEnds ∷ confirms_all n cs steps in
    let since : List Step = confirms_all n cs [] in
    let e = (cuts_each_call old n since o (all_in_call n cs [] tt)).1 in
    let is : after_steps new_past mid ≡ after_steps old (CallEnds ∷ since) = ap (λ (p : Past). after_step p CallEnds) (confirms_since old n cs steps [] refl) in
    let r : AreCut calls (after_steps new_past mid) (after_steps new_past (restores calls mid)) = restored_cut calls mid (ap (λ (p : Past). p.book.open_job) is ∙ e.none_open) in
    record {
      jobs = e.jobs ++ r.jobs;
      jobs_are = r.jobs_are ∙ ap (λ (xs : List JobValue). xs ++ r.jobs) (ap jobs_of is ∙ e.closes.jobs_are) ∙ append_assoc (jobs_of old) e.jobs r.jobs;
      cut = (e.jobs, r.jobs, refl, subst (λ (xs : List Confirmation). IsCutOf n xs e.jobs) (all_confirmed n cs []) e.cut, r.cut);
      none_open = r.none_open;
    }
