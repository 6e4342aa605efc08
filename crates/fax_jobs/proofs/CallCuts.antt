-- The book cuts the confirmations of each call, whatever is sent and ends meanwhile.
use Rattle.std.proofs.Common.{◌≡◌, ℕ, Bool, true, false, List, [], ◌∷◌, ◌++◌, Option, Some, None, refl, sym, ◌∙◌, ap, subst, append_assoc, if◌then◌else◌}
use Rattle.std.proofs.lemmas.List.{append-nil}
use Rattle.fax_jobs.specs.declared.outcome.Outcome.{Outcome}
use Rattle.fax_jobs.specs.declared.report.Report.{Report}
use Rattle.fax_jobs.specs.Jobs.{JobValue}
use Rattle.fax_jobs.specs.Books.{Book, job_of, longer, joined, after, joins, opened, added, closed, with_page, confirmed}
use Rattle.fax_jobs.specs.Pasts.{Step, Confirms, CallEnds, Sends, Ends, Past, as_list, sent_if, ended_if, after_step, after_steps, jobs_of}
use Rattle.fax_jobs.specs.Cuts.{Confirmation, IsCutOf, IsRest, IsCutSoFar, confirmations, AreInCall, CutsEachCall, KeepsJobs}
use Rattle.fax_jobs.proofs.CutLemmas.{UpTo, to_up, from_up, up_map, up_join, up_ends, up_more, EndsWith, first_page, further_page, other_job, stays_open, shut}

-- a call so far: the jobs that were closed before it, those that are now, and the open one
record SoFar (call : ℕ) (cs : List Confirmation) (old now : List JobValue) (o : Option JobValue) : Type 0 where
  jobs : List JobValue
  cut : IsCutSoFar call cs jobs o
  are : now ≡ old ++ jobs

-- a page came, and its command is not yet looked at
record Paged (call : ℕ) (cs : List Confirmation) (c : Confirmation) (old now : List JobValue) (o : Option JobValue) : Type 0 where
  jobs : List JobValue
  job : JobValue
  is_open : o ≡ Some job
  cut : UpTo call (cs ++ c ∷ []) jobs (EndsWith call c job)
  are : now ≡ old ++ jobs

one_more : (now old jobs : List JobValue) (job : JobValue) → now ≡ old ++ jobs → now ++ job ∷ [] ≡ old ++ (jobs ++ job ∷ [])
one_more now old jobs job e = ap (λ (js : List JobValue). js ++ job ∷ []) e ∙ append_assoc old jobs (job ∷ [])

page_joins : (call : ℕ) (cs : List Confirmation) (c : Confirmation) (old now : List JobValue) (o : Option JobValue) → joins o call ≡ true → SoFar call cs old now o → Paged call cs c old now (joined o c.page)
page_joins call cs c old now None t s = cc
page_joins call cs c old now (Some job) t s =
    record {
      jobs = s.jobs;
      job = longer job c.page;
      is_open = refl;
      cut = up_more call cs s.jobs (IsRest call (Some job)) (EndsWith call c (longer job c.page)) c (λ own r. further_page call c job own t r) (to_up call cs s.jobs (Some job) s.cut);
      are = s.are;
    }

page_opens : (call : ℕ) (cs : List Confirmation) (c : Confirmation) (old now : List JobValue) (o : Option JobValue) → joins o call ≡ false → SoFar call cs old now o → Paged call cs c old (after now o) (Some (job_of call c.page))
page_opens call cs c old now None t s =
    record {
      jobs = s.jobs;
      job = job_of call c.page;
      is_open = refl;
      cut = up_more call cs s.jobs (IsRest call None) (EndsWith call c (job_of call c.page)) c (first_page call c) (to_up call cs s.jobs None s.cut);
      are = s.are;
    }
page_opens call cs c old now (Some job) t s =
    let Q : List Confirmation → Type 0 = EndsWith call c (job_of call c.page) in
    record {
      jobs = s.jobs ++ job ∷ [];
      job = job_of call c.page;
      is_open = refl;
      cut = up_join call (cs ++ c ∷ []) s.jobs (job ∷ []) Q (up_more call cs s.jobs (IsRest call (Some job)) (λ own. UpTo call own (job ∷ []) Q) c (λ own r. other_job call c job own t r) (to_up call cs s.jobs (Some job) s.cut));
      are = one_more now old s.jobs job s.are;
    }

command_leaves : (call : ℕ) (cs : List Confirmation) (c : Confirmation) (old now : List JobValue) (o : Option JobValue) → c.closes ≡ false → Paged call cs c old now o → SoFar call (cs ++ c ∷ []) old now o
command_leaves call cs c old now None e p = let q : None ≡ Some p.job = p.is_open in cc
command_leaves call cs c old now (Some job) e p =
    let same : p.job ≡ job = let q : Some job ≡ Some p.job = p.is_open in cc in
    record {
      jobs = p.jobs;
      cut = from_up call (cs ++ c ∷ []) p.jobs (Some job) (up_map call (cs ++ c ∷ []) p.jobs (EndsWith call c p.job) (IsRest call (Some job)) (λ own w. stays_open c call job own e (subst (λ (j : JobValue). EndsWith call c j own) same w)) p.cut);
      are = p.are;
    }

command_closes : (call : ℕ) (cs : List Confirmation) (c : Confirmation) (old now : List JobValue) (o : Option JobValue) → c.closes ≡ true → Paged call cs c old now o → SoFar call (cs ++ c ∷ []) old (after now o) None
command_closes call cs c old now None e p = let q : None ≡ Some p.job = p.is_open in cc
command_closes call cs c old now (Some job) e p =
    let same : p.job ≡ job = let q : Some job ≡ Some p.job = p.is_open in cc in
    record {
      jobs = p.jobs ++ job ∷ [];
      cut = from_up call (cs ++ c ∷ []) (p.jobs ++ job ∷ []) None (up_join call (cs ++ c ∷ []) p.jobs (job ∷ []) (IsRest call None)
          (up_map call (cs ++ c ∷ []) p.jobs (EndsWith call c p.job) (λ own. UpTo call own (job ∷ []) (IsRest call None)) (λ own w. shut c call job own e (subst (λ (j : JobValue). EndsWith call c j own) same w)) p.cut));
      are = one_more now old p.jobs job p.are;
    }

-- what a book's steps do to the jobs that were closed
after_all : (ended sending waiting : List JobValue) (o : Option JobValue) → ended ++ (sending ++ after waiting o) ≡ after (ended ++ (sending ++ waiting)) o
after_all ended sending waiting None = refl
after_all ended sending waiting (Some job) =
    ap (λ (js : List JobValue). ended ++ js) (sym (append_assoc sending waiting (job ∷ []))) ∙ sym (append_assoc ended (sending ++ waiting) (job ∷ []))

closed_jobs : (past : Past) → jobs_of (record past { book = closed past.book }) ≡ after (jobs_of past) past.book.open_job
closed_jobs past = after_all past.ended (as_list past.book.sending) past.book.waiting past.book.open_job

page_comes : (call : ℕ) (cs : List Confirmation) (c : Confirmation) (old : List JobValue) (past : Past) → SoFar call cs old (jobs_of past) past.book.open_job →
    Paged call cs c old (jobs_of (record past { book = with_page past.book call c.page })) (with_page past.book call c.page).open_job
page_comes call cs c old past s = by (joins past.book.open_job call) refl
  where
    by : (t : Bool) → joins past.book.open_job call ≡ t → Paged call cs c old (jobs_of (record past { book = if◌then◌else◌ {A = Book} t (added past.book c.page) (opened (closed past.book) call c.page) })) (if◌then◌else◌ {A = Book} t (added past.book c.page) (opened (closed past.book) call c.page)).open_job
    by true t = page_joins call cs c old (jobs_of past) past.book.open_job t s
    by false t = subst (λ (now : List JobValue). Paged call cs c old now (Some (job_of call c.page))) (sym (closed_jobs past)) (page_opens call cs c old (jobs_of past) past.book.open_job t s)

command_comes : (call : ℕ) (cs : List Confirmation) (c : Confirmation) (old : List JobValue) (past : Past) (closes : Bool) → c.closes ≡ closes → Paged call cs c old (jobs_of past) past.book.open_job →
    SoFar call (cs ++ c ∷ []) old (jobs_of (record past { book = if◌then◌else◌ {A = Book} closes (closed past.book) past.book })) (if◌then◌else◌ {A = Book} closes (closed past.book) past.book).open_job
command_comes call cs c old past true e p = subst (λ (now : List JobValue). SoFar call (cs ++ c ∷ []) old now None) (sym (closed_jobs past)) (command_closes call cs c old (jobs_of past) past.book.open_job e p)
command_comes call cs c old past false e p = command_leaves call cs c old (jobs_of past) past.book.open_job e p

confirmation_comes : (call : ℕ) (cs : List Confirmation) (c : Confirmation) (old : List JobValue) (past : Past) → SoFar call cs old (jobs_of past) past.book.open_job →
    SoFar call (cs ++ c ∷ []) old (jobs_of (record past { book = confirmed past.book call c.page c.closes })) (confirmed past.book call c.page c.closes).open_job
confirmation_comes call cs c old past s = command_comes call cs c old (record past { book = with_page past.book call c.page }) c.closes refl (page_comes call cs c old past s)

sent_jobs : (ended : List JobValue) (reported : List Report) (o : Option JobValue) (waiting : List JobValue) (sending : Option JobValue) (reports : List Report) →
    let book : Book = record { open_job = o; waiting = waiting; sending = sending; reports = reports } in
    jobs_of (record { book = sent_if sending book; ended = ended; reported = reported }) ≡ ended ++ (as_list sending ++ waiting)
sent_jobs ended reported o [] None reports = refl
sent_jobs ended reported o (job ∷ jobs) None reports = refl
sent_jobs ended reported o waiting (Some job) reports = refl

sent_open : (sending : Option JobValue) (book : Book) → (sent_if sending book).open_job ≡ book.open_job
sent_open None book = refl
sent_open (Some job) book = refl

ended_jobs : (ended : List JobValue) (reported : List Report) (o : Option JobValue) (waiting : List JobValue) (sending : Option JobValue) (reports : List Report) (outcome : Outcome) (delivered : ℕ) →
    let book : Book = record { open_job = o; waiting = waiting; sending = sending; reports = reports } in
    jobs_of (ended_if sending (record { book = book; ended = ended; reported = reported }) outcome delivered) ≡ ended ++ (as_list sending ++ waiting)
ended_jobs ended reported o waiting None reports outcome delivered = refl
ended_jobs ended reported o waiting (Some job) reports outcome delivered = append_assoc ended (job ∷ []) waiting

ended_open : (sending : Option JobValue) (past : Past) (outcome : Outcome) (delivered : ℕ) → (ended_if sending past outcome delivered).book.open_job ≡ past.book.open_job
ended_open None past outcome delivered = refl
ended_open (Some job) past outcome delivered = refl

same_so_far : (call : ℕ) (cs : List Confirmation) (old now later : List JobValue) (o p : Option JobValue) → later ≡ now → p ≡ o → SoFar call cs old now o → SoFar call cs old later p
same_so_far call cs old now later o p e f s =
    subst (λ (q : Option JobValue). SoFar call cs old later q) (sym f) (subst (λ (js : List JobValue). SoFar call cs old js o) (sym e) s)

sends_comes : (past : Past) → jobs_of (after_step past Sends) ≡ jobs_of past
sends_comes past = sent_jobs past.ended past.reported past.book.open_job past.book.waiting past.book.sending past.book.reports

ends_comes : (past : Past) (outcome : Outcome) (delivered : ℕ) → jobs_of (after_step past (Ends outcome delivered)) ≡ jobs_of past
ends_comes past outcome delivered = ended_jobs past.ended past.reported past.book.open_job past.book.waiting past.book.sending past.book.reports outcome delivered

so_far : (old : Past) (call : ℕ) (steps : List Step) → old.book.open_job ≡ None → AreInCall call steps → SoFar call (confirmations steps) (jobs_of old) (jobs_of (after_steps old steps)) (after_steps old steps).book.open_job
so_far old call [] n a = record { jobs = []; cut = subst (λ (o : Option JobValue). IsRest call o []) (sym n) refl; are = sym (append-nil (jobs_of old)) }
so_far old call (Confirms number page closes ∷ before) n a =
    let c : Confirmation = record { page = page; closes = closes } in
    let past : Past = after_steps old before in
    subst (λ (k : ℕ). SoFar call (confirmations before ++ c ∷ []) (jobs_of old) (jobs_of (record past { book = confirmed past.book k page closes })) (confirmed past.book k page closes).open_job) (sym a.0)
    (confirmation_comes call (confirmations before) c (jobs_of old) past (so_far old call before n a.1))
so_far old call (CallEnds ∷ before) n a = absurd a
so_far old call (Sends ∷ before) n a =
    let past : Past = after_steps old before in
    same_so_far call (confirmations before) (jobs_of old) (jobs_of past) _ past.book.open_job _ (sends_comes past) (sent_open past.book.sending past.book) (so_far old call before n a)
so_far old call (Ends outcome delivered ∷ before) n a =
    let past : Past = after_steps old before in
    same_so_far call (confirmations before) (jobs_of old) (jobs_of past) _ past.book.open_job _ (ends_comes past outcome delivered) (ended_open past.book.sending past outcome delivered) (so_far old call before n a)

-- the call ends
record AtEnd (call : ℕ) (cs : List Confirmation) (old now : List JobValue) : Type 0 where
  jobs : List JobValue
  cut : IsCutOf call cs jobs
  are : now ≡ old ++ jobs

end_comes : (call : ℕ) (cs : List Confirmation) (old now : List JobValue) (o : Option JobValue) → SoFar call cs old now o → AtEnd call cs old (after now o)
end_comes call cs old now None s =
    record { jobs = s.jobs ++ []; cut = up_ends call cs s.jobs [] (IsRest call None) (λ own r. r) (to_up call cs s.jobs None s.cut); are = s.are ∙ ap (λ (js : List JobValue). old ++ js) (sym (append-nil s.jobs)) }
end_comes call cs old now (Some job) s =
    record {
      jobs = s.jobs ++ job ∷ [];
      cut = up_ends call cs s.jobs (job ∷ []) (IsRest call (Some job)) (λ own r. (own, [], sym (append-nil own), r.0, refl)) (to_up call cs s.jobs (Some job) s.cut);
      are = one_more now old s.jobs job s.are;
    }

pub cuts_each_call : CutsEachCall
cuts_each_call old call steps n a =
    let s = so_far old call steps n a in
    let past : Past = after_steps old steps in
    let e : AtEnd call (confirmations steps) (jobs_of old) (jobs_of (record past { book = closed past.book })) = subst (λ (now : List JobValue). AtEnd call (confirmations steps) (jobs_of old) now) (sym (closed_jobs past)) (end_comes call (confirmations steps) (jobs_of old) (jobs_of past) past.book.open_job s) in
    (record { jobs = s.jobs; cut = s.cut; closes = record { jobs_are = s.are } }, record { jobs = e.jobs; cut = e.cut; closes = record { jobs_are = e.are }; none_open = refl })

-- between calls
ends_again : (past : Past) → past.book.open_job ≡ None → jobs_of (record past { book = closed past.book }) ≡ jobs_of past
ends_again past n = closed_jobs past ∙ ap (λ (o : Option JobValue). after (jobs_of past) o) n

pub keeps_jobs : KeepsJobs
keeps_jobs old [] n a = (refl, n)
keeps_jobs old (Confirms call page closes ∷ before) n a = absurd a
keeps_jobs old (CallEnds ∷ before) n a =
    let k = keeps_jobs old before n a in
    (ends_again (after_steps old before) k.1 ∙ k.0, refl)
keeps_jobs old (Sends ∷ before) n a =
    let k = keeps_jobs old before n a in
    let past : Past = after_steps old before in
    (sends_comes past ∙ k.0, sent_open past.book.sending past.book ∙ k.1)
keeps_jobs old (Ends outcome delivered ∷ before) n a =
    let k = keeps_jobs old before n a in
    let past : Past = after_steps old before in
    (ends_comes past outcome delivered ∙ k.0, ended_open past.book.sending past outcome delivered ∙ k.1)
