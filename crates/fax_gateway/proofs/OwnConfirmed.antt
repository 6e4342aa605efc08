-- The pages of the jobs, in order, are the confirmed pages, in order: so page n of the job that is sent has its own.
use Rattle.std.proofs.Common.{◌≡◌, ℕ, zero, suc, ◌+◌, max, Bool, true, false, not, ◌&&◌, nat_eq, nat_lt, List, [], ◌∷◌, ◌++◌, ◌⊎◌, inl, inr, length, slice_get, drop, Option, Some, None, refl, sym, ◌∙◌, ap, subst, arith, append_assoc, length-append, if◌then◌else◌}
use Rattle.std.proofs.lemmas.List.{append-nil}
use Rattle.fax_pagestore.specs.Pages.{PageValue}
use Rattle.fax_jobs.specs.declared.outcome.Outcome.{Outcome}
use Rattle.fax_jobs.specs.Jobs.{JobValue, most_pages}
use Rattle.fax_jobs.specs.Books.{Book, joins, joined, added, opened, closed, after, first_of, with_page}
use Rattle.fax_jobs.specs.Pasts.{Step, Confirms, CallEnds, Sends, Ends, Past, new_past, as_list, sent_if, ended_if, after_steps}
use Rattle.fax_jobs.specs.Cuts.{Confirmation, pages_of}
use Rattle.fax_answer.specs.Replies.{ConfirmedPage, WaitingPacket, mcf_packet}
use Rattle.fax_answer.proofs.Confirmations.{gives_confirmations}
use Rattle.fax_call.specs.Writings.{Writing, IsWriting}
use Rattle.fax_call.specs.Emission.{Emission, Mark, IsPageOf}
use Rattle.fax_gateway.specs.Restored.{RestoredCall, CallPage, pages_with, pages_restored, confirms_all, restores}
use Rattle.fax_gateway.specs.Setups.{Setup}
use Rattle.fax_gateway.specs.Events.{Event, Ring, FromCalling, FromCalled, Tick, Placed, Given, clock}
use Rattle.fax_gateway.specs.CallingLegs.{CallingLeg, core_of, calling_leg, idle_after, answers, told_calling, confirmed_by}
use Rattle.fax_gateway.specs.CalledLegs.{is_free, core_left, told_called, outcome_told, delivered_told}
use Rattle.fax_gateway.specs.BothLegs.{BothLegs, begins_next, past_of, book_of, confirms_if, ends_if, heard_in_tick, leg_of, sends, sends_if, enters, both_legs, in_tick}
use Rattle.fax_gateway.specs.Traces.{IsTrace}
use Rattle.fax_gateway.specs.Told.{gives_mcf, elements_told, leg_marks, marks_before, EachEmission}
use Rattle.fax_gateway.specs.Forwards.{WasConfirmedIn, IsForwarded}
use Rattle.fax_gateway.specs.Cuts.{confirmed_at}
use Rattle.fax_gateway.specs.Lives.{pages_in, pages_of_jobs}
use Rattle.fax_gateway.specs.OwnConfirmations.{one_if_some, confirmations_in, IsNumber, HasNumber, HasItsOwn, EachPageHasItsOwnConfirmation}
use Rattle.fax_gateway.proofs.Confirmed.{given_with}
use Rattle.fax_gateway.proofs.Forwarding.{each_emission, free_none, forwards}
use Rattle.fax_gateway.proofs.InCalls.{begins_free, heard_sends}
use Rattle.fax_gateway.proofs.LegsRead.{leg_is_read}
use Rattle.fax_gateway.proofs.Replied.{IfNeat, neat_of, ticked_neat, told_mcf}
use Rattle.fax_gateway.proofs.Restoring.{EachAt, each_number, number_after, number_map}

-- A PAGE WITH THE CALL THAT IT CAME IN: those of a job, of jobs, and those that steps confirm, in their order
abbrev pub Told : Type 0
Told = CallPage

abbrev pub told_of : ℕ → PageValue → Told
told_of call page = record { call = call; page = page }

abbrev pub confirmed_told : List Step → List Told
confirmed_told [] = []
confirmed_told (Confirms call page closes ∷ before) = confirmed_told before ++ told_of call page ∷ []
confirmed_told (CallEnds ∷ before) = confirmed_told before
confirmed_told (Sends ∷ before) = confirmed_told before
confirmed_told (Ends outcome delivered ∷ before) = confirmed_told before

-- the pages of a book's jobs that are not sent yet, and of all jobs
abbrev pub waiting_told : Book → List Told
waiting_told book = pages_of_jobs book.waiting ++ pages_of_jobs (as_list book.open_job)

abbrev pub past_told : Past → List Told
past_told past = pages_of_jobs past.ended ++ (pages_of_jobs (as_list past.book.sending) ++ waiting_told past.book)

told-append : (js ks : List JobValue) → pages_of_jobs (js ++ ks) ≡ pages_of_jobs js ++ pages_of_jobs ks
told-append [] ks = refl
told-append (j ∷ js) ks = ap (λ (x : List Told). pages_in j.call j.pages ++ x) (told-append js ks) ∙ sym (append_assoc (pages_in j.call j.pages) (pages_of_jobs js) (pages_of_jobs ks))

pages-append : (call : ℕ) (ps : List PageValue) (page : PageValue) → pages_in call (ps ++ page ∷ []) ≡ pages_in call ps ++ told_of call page ∷ []
pages-append call [] page = refl
pages-append call (p ∷ ps) page = ap (λ (x : List Told). told_of call p ∷ x) (pages-append call ps page)

-- a job is closed
after_told : (js : List JobValue) (o : Option JobValue) → pages_of_jobs (after js o) ++ [] ≡ pages_of_jobs js ++ pages_of_jobs (as_list o)
after_told js None = refl
after_told js (Some job) = append-nil (pages_of_jobs (js ++ job ∷ [])) ∙ told-append js (job ∷ [])

closed_told : (book : Book) → waiting_told (closed book) ≡ waiting_told book
closed_told book = after_told book.waiting book.open_job

-- a page joins, or opens a job
both : (a b : Bool) → (a && b) ≡ true → a ≡ true
both true b h = refl
both false b h = cc

same_call : (m n : ℕ) → nat_eq m n ≡ true → m ≡ n
same_call m n h = grind (arith)

joined_told : (js : List Told) (o : Option JobValue) (call : ℕ) (page : PageValue) → joins o call ≡ true → js ++ pages_of_jobs (as_list (joined o page)) ≡ (js ++ pages_of_jobs (as_list o)) ++ told_of call page ∷ []
joined_told js None call page t = cc
joined_told js (Some job) call page t =
    let e : job.call ≡ call = same_call job.call call (both (nat_eq job.call call) (nat_lt (length job.pages) most_pages) t) in
    let own : List Told = pages_in job.call job.pages in
    let last : pages_in job.call (job.pages ++ page ∷ []) ++ [] ≡ (own ++ []) ++ told_of call page ∷ [] =
    append-nil (pages_in job.call (job.pages ++ page ∷ [])) ∙ pages-append job.call job.pages page
    ∙ ap (λ (c : ℕ). own ++ told_of c page ∷ []) e ∙ ap (λ (x : List Told). x ++ told_of call page ∷ []) (sym (append-nil own)) in
    ap (λ (x : List Told). js ++ x) last ∙ sym (append_assoc js (own ++ []) (told_of call page ∷ []))

page_told : (book : Book) (call : ℕ) (page : PageValue) → waiting_told (with_page book call page) ≡ waiting_told book ++ told_of call page ∷ []
page_told book call page = by (joins book.open_job call) refl
  where
    by : (t : Bool) → joins book.open_job call ≡ t → waiting_told (if◌then◌else◌ {A = Book} t (added book page) (opened (closed book) call page)) ≡ waiting_told book ++ told_of call page ∷ []
    by true e = joined_told (pages_of_jobs book.waiting) book.open_job call page e
    by false e = ap (λ (x : List Told). x ++ told_of call page ∷ []) (sym (append-nil (pages_of_jobs (after book.waiting book.open_job))) ∙ after_told book.waiting book.open_job)

command_told : (closes : Bool) (book : Book) → waiting_told (if◌then◌else◌ {A = Book} closes (closed book) book) ≡ waiting_told book
command_told true book = closed_told book
command_told false book = refl

page_sending : (book : Book) (call : ℕ) (page : PageValue) (closes : Bool) →
    (if◌then◌else◌ {A = Book} closes (closed (with_page book call page)) (with_page book call page)).sending ≡ book.sending
page_sending book call page closes = by closes (joins book.open_job call)
  where
    by : (c t : Bool) → let b : Book = if◌then◌else◌ {A = Book} t (added book page) (opened (closed book) call page) in
        (if◌then◌else◌ {A = Book} c (closed b) b).sending ≡ book.sending
    by true true = refl
    by true false = refl
    by false true = refl
    by false false = refl

-- the job that was closed first is sent, and ends
sent_told : (o : Option JobValue) (book : Book) → book.sending ≡ o → pages_of_jobs (as_list (sent_if o book).sending) ++ waiting_told (sent_if o book) ≡ pages_of_jobs (as_list book.sending) ++ waiting_told book
sent_told None book e = by book.waiting ∙ ap (λ (x : Option JobValue). pages_of_jobs (as_list x) ++ waiting_told book) (sym e)
  where
    by : (js : List JobValue) → pages_of_jobs (as_list (first_of js)) ++ (pages_of_jobs (drop 1 js) ++ pages_of_jobs (as_list book.open_job)) ≡ pages_of_jobs js ++ pages_of_jobs (as_list book.open_job)
    by [] = refl
    by (j ∷ js) = sym (append_assoc (pages_in j.call j.pages ++ []) (pages_of_jobs js) (pages_of_jobs (as_list book.open_job)))
        ∙ ap (λ (x : List Told). (x ++ pages_of_jobs js) ++ pages_of_jobs (as_list book.open_job)) (append-nil (pages_in j.call j.pages))
sent_told (Some job) book e = refl

ended_told : (o : Option JobValue) (past : Past) (outcome : Outcome) (delivered : ℕ) → past.book.sending ≡ o → past_told (ended_if o past outcome delivered) ≡ past_told past
ended_told None past outcome delivered e = refl
ended_told (Some job) past outcome delivered e =
    let rest : List Told = waiting_told past.book in
    ap (λ (x : List Told). x ++ rest) (told-append past.ended (job ∷ [])) ∙ append_assoc (pages_of_jobs past.ended) (pages_of_jobs (job ∷ [])) rest
    ∙ ap (λ (x : Option JobValue). pages_of_jobs past.ended ++ (pages_of_jobs (as_list x) ++ rest)) (sym e)

-- so the pages of all jobs are the confirmed ones
pub all_told : (steps : List Step) → past_told (after_steps new_past steps) ≡ confirmed_told steps
all_told [] = refl
all_told (Confirms call page closes ∷ before) =
    let past : Past = after_steps new_past before in
    let book : Book = past.book in
    let front : List Told = pages_of_jobs past.ended in
    let sent : List Told = pages_of_jobs (as_list book.sending) in
    let last : List Told = told_of call page ∷ [] in
    let b : Book = if◌then◌else◌ {A = Book} closes (closed (with_page book call page)) (with_page book call page) in
    let w : waiting_told b ≡ waiting_told book ++ last = command_told closes (with_page book call page) ∙ page_told book call page in
    ap (λ (o : Option JobValue). front ++ (pages_of_jobs (as_list o) ++ waiting_told b)) (page_sending book call page closes)
    ∙ ap (λ (x : List Told). front ++ (sent ++ x)) w
    ∙ ap (λ (x : List Told). front ++ x) (sym (append_assoc sent (waiting_told book) last))
    ∙ sym (append_assoc front (sent ++ waiting_told book) last)
    ∙ ap (λ (x : List Told). x ++ last) (all_told before)
all_told (CallEnds ∷ before) =
    let past : Past = after_steps new_past before in
    ap (λ (x : List Told). pages_of_jobs past.ended ++ (pages_of_jobs (as_list past.book.sending) ++ x)) (closed_told past.book) ∙ all_told before
all_told (Sends ∷ before) =
    let past : Past = after_steps new_past before in
    ap (λ (x : List Told). pages_of_jobs past.ended ++ x) (sent_told past.book.sending past.book refl) ∙ all_told before
all_told (Ends outcome delivered ∷ before) =
    let past : Past = after_steps new_past before in
    ended_told past.book.sending past outcome delivered refl ∙ all_told before

-- PLACES
get_after : (xs ys : List Told) (n : ℕ) → slice_get (xs ++ ys) (length xs + n) ≡ slice_get ys n
get_after [] ys n = ap (slice_get ys) (let e : 0 + n ≡ n = omega arith in e)
get_after (x ∷ xs) ys n =
    ap (slice_get (x ∷ (xs ++ ys))) (let e : length (x ∷ xs) + n ≡ suc (length xs + n) = omega arith in e) ∙ get_after xs ys n

get_page : (call : ℕ) (ps : List PageValue) (more : List Told) (n : ℕ) (page : PageValue) → slice_get ps n ≡ Some page → slice_get (pages_in call ps ++ more) n ≡ Some (told_of call page)
get_page call [] more n page h = cc
get_page call (p ∷ ps) more zero page h = let e : p ≡ page = cc in ap (λ (x : PageValue). Some (told_of call x)) e
get_page call (p ∷ ps) more (suc n) page h = get_page call ps more n page h

get_end : (xs : List Told) (x y : Told) (k : ℕ) → slice_get (xs ++ x ∷ []) k ≡ Some y → (slice_get xs k ≡ Some y) ⊎ ((length xs ≡ k) × (x ≡ y))
get_end [] x y zero h = inr (refl, cc)
get_end [] x y (suc k) h = cc
get_end (z ∷ xs) x y zero h = inl h
get_end (z ∷ xs) x y (suc k) h = by (get_end xs x y k h)
  where
    by : (slice_get xs k ≡ Some y) ⊎ ((length xs ≡ k) × (x ≡ y)) → (slice_get (z ∷ xs) (suc k) ≡ Some y) ⊎ ((length (z ∷ xs) ≡ suc k) × (x ≡ y))
    by (inl e) = inl e
    by (inr e) = inr (omega (arith, e.0), e.1)

pages_length : (call : ℕ) (ps : List PageValue) → length (pages_in call ps) ≡ length ps
pages_length call [] = refl
pages_length call (p ∷ ps) = let e : length (pages_in call ps) ≡ length ps = pages_length call ps in omega arith

jobs_length : (js : List JobValue) → length (pages_of_jobs js) ≡ length (pages_of js)
jobs_length [] = refl
jobs_length (j ∷ js) =
    let e : length (pages_of_jobs js) ≡ length (pages_of js) = jobs_length js in
    let f : length (pages_in j.call j.pages) ≡ length j.pages = pages_length j.call j.pages in
    let g : length (pages_in j.call j.pages ++ pages_of_jobs js) ≡ length (pages_in j.call j.pages) + length (pages_of_jobs js) = length-append (pages_in j.call j.pages) (pages_of_jobs js) in
    let i : length (j.pages ++ pages_of js) ≡ length j.pages + length (pages_of js) = length-append j.pages (pages_of js) in
    omega arith

-- page n of the job that is sent
place_of : (steps : List Step) (job : JobValue) (n : ℕ) (page : PageValue) → (after_steps new_past steps).book.sending ≡ Some job → slice_get job.pages n ≡ Some page →
    slice_get (confirmed_told steps) (length (pages_of (after_steps new_past steps).ended) + n) ≡ Some (told_of job.call page)
place_of steps job n page is h =
    let past : Past = after_steps new_past steps in
    let front : List Told = pages_of_jobs past.ended in
    let rest : List Told = waiting_told past.book in
    ap (λ (k : ℕ). slice_get (confirmed_told steps) (k + n)) (sym (jobs_length past.ended))
    ∙ ap (λ (xs : List Told). slice_get xs (length front + n)) (sym (all_told steps))
    ∙ ap (λ (o : Option JobValue). slice_get (front ++ (pages_of_jobs (as_list o) ++ rest)) (length front + n)) is
    ∙ get_after front ((pages_in job.call job.pages ++ []) ++ rest) n
    ∙ ap (λ (xs : List Told). slice_get xs n) (append_assoc (pages_in job.call job.pages) [] rest)
    ∙ get_page job.call job.pages ([] ++ rest) n page h

-- WHAT HOLDS OF EACH CONFIRMATION, with the number of those before it
abbrev Numbered : (ℕ → ℕ → PageValue → Type 0) → List Step → Type 0
Numbered P [] = Unit {0}
Numbered P (Confirms call page closes ∷ before) = P (length (confirmed_told before)) call page × Numbered P before
Numbered P (CallEnds ∷ before) = Numbered P before
Numbered P (Sends ∷ before) = Numbered P before
Numbered P (Ends outcome delivered ∷ before) = Numbered P before

at_place : (P : ℕ → ℕ → PageValue → Type 0) (steps : List Step) (k : ℕ) (told : Told) → Numbered P steps → slice_get (confirmed_told steps) k ≡ Some told → P k told.call told.page
at_place P [] k told a h = cc
at_place P (Confirms call page closes ∷ before) k told a h = by (λ e. at_place P before k told a.1 e) (get_end (confirmed_told before) (told_of call page) told k h)
  where
    by : (slice_get (confirmed_told before) k ≡ Some told → P k told.call told.page) → (slice_get (confirmed_told before) k ≡ Some told) ⊎ ((length (confirmed_told before) ≡ k) × (told_of call page ≡ told)) → P k told.call told.page
    by f (inl e) = f e
    by f (inr e) = subst (λ (x : Told). P k x.call x.page) e.1 (subst (λ (m : ℕ). P m call page) e.0 a.0)
at_place P (CallEnds ∷ before) k told a h = at_place P before k told a h
at_place P (Sends ∷ before) k told a h = at_place P before k told a h
at_place P (Ends outcome delivered ∷ before) k told a h = at_place P before k told a h

numbered_map : (P Q : ℕ → ℕ → PageValue → Type 0) (steps : List Step) → ((k call : ℕ) (page : PageValue) → P k call page → Q k call page) → Numbered P steps → Numbered Q steps
numbered_map P Q [] f h = tt
numbered_map P Q (Confirms call page closes ∷ before) f h = (f (length (confirmed_told before)) call page h.0, numbered_map P Q before f h.1)
numbered_map P Q (CallEnds ∷ before) f h = numbered_map P Q before f h
numbered_map P Q (Sends ∷ before) f h = numbered_map P Q before f h
numbered_map P Q (Ends outcome delivered ∷ before) f h = numbered_map P Q before f h

-- THOSE THAT WERE RESTORED are the first
confirmed_first : (number : ℕ) (cs : List Confirmation) (steps : List Step) → confirmed_told (confirms_all number cs steps) ≡ confirmed_told steps ++ pages_with number cs
confirmed_first number [] steps = sym (append-nil (confirmed_told steps))
confirmed_first number (c ∷ cs) steps =
    confirmed_first number cs (Confirms number c.page c.closes ∷ steps) ∙ append_assoc (confirmed_told steps) (told_of number c.page ∷ []) (pages_with number cs)

pub restored_first : (calls : List RestoredCall) (steps : List Step) → confirmed_told (restores calls steps) ≡ confirmed_told steps ++ pages_restored calls
restored_first [] steps = sym (append-nil (confirmed_told steps))
restored_first (call ∷ calls) steps =
    restored_first calls (CallEnds ∷ confirms_all call.number call.confirmed steps)
    ∙ ap (λ (xs : List Told). xs ++ pages_restored calls) (confirmed_first call.number call.confirmed steps)
    ∙ append_assoc (confirmed_told steps) (pages_with call.number call.confirmed) (pages_restored calls)

last_length : (xs : List Told) (x : Told) → length (xs ++ x ∷ []) ≡ suc (length xs)
last_length xs x = let e : length (xs ++ x ∷ []) ≡ length xs + length (x ∷ []) = length-append xs (x ∷ []) in omega arith

-- each of them with its number
record NumbersOn (P : ℕ → ℕ → PageValue → Type 0) (k : ℕ) (more : List CallPage) (steps : List Step) : Type 0 where
  at : length (confirmed_told steps) ≡ k
  these : Numbered P steps
  others : EachAt P k more

numbers_call : (P : ℕ → ℕ → PageValue → Type 0) (number : ℕ) (cs : List Confirmation) (more : List CallPage) (k : ℕ) (steps : List Step) → NumbersOn P k (pages_with number cs ++ more) steps →
    (n : ℕ) × NumbersOn P n more (confirms_all number cs steps)
numbers_call P number [] more k steps h = (k, h)
numbers_call P number (c ∷ cs) more k steps h =
    numbers_call P number cs more (suc k) (Confirms number c.page c.closes ∷ steps)
    (record {
      at = last_length (confirmed_told steps) (told_of number c.page) ∙ ap suc h.at;
      these = (subst (λ (n : ℕ). P n number c.page) (sym h.at) h.others.0, h.these);
      others = h.others.1;
    })

numbers_restored : (P : ℕ → ℕ → PageValue → Type 0) (calls : List RestoredCall) (k : ℕ) (steps : List Step) → NumbersOn P k (pages_restored calls) steps → Numbered P (restores calls steps)
numbers_restored P [] k steps h = h.these
numbers_restored P (call ∷ calls) k steps h =
    let i = numbers_call P call.number call.confirmed (pages_restored calls) k steps h in
    numbers_restored P calls i.0 (CallEnds ∷ confirms_all call.number call.confirmed steps) (record { at = i.1.at; these = i.1.these; others = i.1.others })

-- WHAT A TICK ADDS
pub ends_told : (b : Bool) (steps : List Step) → confirmed_told (ends_if b steps) ≡ confirmed_told steps
ends_told true steps = refl
ends_told false steps = refl

pub sends_told : (setup : Setup) (writes : Writing) (now : ℕ) (s : BothLegs) → confirmed_told (sends_if setup writes now s).steps ≡ confirmed_told s.steps
sends_told setup writes now s = by (begins_next setup s.leg)
  where
    by : (b : Bool) → confirmed_told (if◌then◌else◌ {A = BothLegs} b (sends true setup writes now s) s).steps ≡ confirmed_told s.steps
    by true = refl
    by false = refl

pub enters_told : (delivered : ℕ) (o : Option Outcome) (steps : List Step) → confirmed_told (enters delivered o steps) ≡ confirmed_told steps
enters_told delivered None steps = refl
enters_told delivered (Some outcome) steps = refl

confirms_length : (number : ℕ) (o : Option ConfirmedPage) (steps : List Step) → length (confirmed_told (confirms_if number o steps)) ≡ length (confirmed_told steps) + one_if_some o
confirms_length number None steps = let e : length (confirmed_told steps) ≡ length (confirmed_told steps) + 0 = omega arith in e
confirms_length number (Some c) steps =
    let e : length (confirmed_told steps ++ told_of number c.page ∷ []) ≡ length (confirmed_told steps) + length (told_of number c.page ∷ []) = length-append (confirmed_told steps) (told_of number c.page ∷ []) in
    omega arith

heard_length : (o : Option CallingLeg) (now : ℕ) (steps : List Step) → length (confirmed_told (heard_in_tick o now steps)) ≡ length (confirmed_told steps) + one_if_some (confirmed_at o now)
heard_length None now steps = let e : length (confirmed_told steps) ≡ length (confirmed_told steps) + 0 = omega arith in e
heard_length (Some l) now steps =
    ap (λ (x : List Told). length x) (ends_told (answers l now).ended (confirms_if l.number (confirmed_by (answers l now).given) steps))
    ∙ confirms_length l.number (confirmed_by (answers l now).given) steps

count_is : (setup : Setup) (writes : Writing) (trace : List Event) → length (confirmed_told (both_legs setup writes trace).steps) ≡ length (pages_restored setup.restored) + confirmations_in setup trace
count_is setup writes [] =
    ap (λ (x : List Told). length x) (restored_first setup.restored [])
    ∙ (let e : length (pages_restored setup.restored) ≡ length (pages_restored setup.restored) + 0 = omega arith in e)
count_is setup writes (Ring at number ∷ earlier) = count_is setup writes earlier
count_is setup writes (FromCalling octets at decided read ∷ earlier) =
    ap (λ (x : List Told). length x) (ends_told (not (idle_after (calling_leg setup earlier)) && idle_after (calling_leg setup (FromCalling octets at decided read ∷ earlier))) (both_legs setup writes earlier).steps) ∙ count_is setup writes earlier
count_is setup writes (FromCalled octets at decided ∷ earlier) = count_is setup writes earlier
count_is setup writes (Placed at connected ∷ earlier) = count_is setup writes earlier
count_is setup writes (Tick at given ∷ earlier) =
    let now : ℕ = max at (clock earlier) in
    let s : BothLegs = both_legs setup writes earlier in
    let z : BothLegs = in_tick setup writes earlier at in
    let o : Option CallingLeg = calling_leg setup earlier in
    ap (λ (x : List Told). length x) (enters_told (delivered_told writes z.leg now) (outcome_told writes z.leg now) z.steps ∙ sends_told setup writes now (record s { steps = heard_in_tick o now s.steps }))
    ∙ heard_length o now s.steps ∙ ap (λ (k : ℕ). k + one_if_some (confirmed_at o now)) (count_is setup writes earlier)
    ∙ added (length (pages_restored setup.restored)) (confirmations_in setup earlier) (one_if_some (confirmed_at o now))
  where
    added : (a b c : ℕ) → (a + b) + c ≡ a + (b + c)
    added a b c = omega arith

-- A CONFIRMATION, with so many before it
own_later : (setup : Setup) (e : Event) (trace : List Event) (k call : ℕ) (page : PageValue) → IsNumber setup trace call page k → IsNumber setup (e ∷ trace) call page k
own_later setup e trace k call page i =
    let w : WasConfirmedIn setup trace call page = i.confirmed in
    record {
      confirmed = record {
        later = e ∷ w.later;
        at = w.at;
        given = w.given;
        earlier = w.earlier;
        split = ap (λ (t : List Event). e ∷ t) w.split;
        mcf = w.mcf;
        leg = w.leg;
        is_leg = w.is_leg;
        in_call = w.in_call;
        confirmed = w.confirmed;
        same_page = w.same_page;
        gives = w.gives;
        confirmation = w.confirmation;
      };
      before_it = i.before_it;
    }

abbrev NumberOf : Setup → List Event → ℕ → ℕ → PageValue → Type 0
NumberOf setup trace k call page = HasNumber (pages_restored setup.restored) k call page (IsNumber setup trace call page)

number_later : (setup : Setup) (e : Event) (trace : List Event) (k call : ℕ) (page : PageValue) → NumberOf setup trace k call page → NumberOf setup (e ∷ trace) k call page
number_later setup e trace k call page h =
    number_map (pages_restored setup.restored) k call page (IsNumber setup trace call page) (IsNumber setup (e ∷ trace) call page) (λ n i. own_later setup e trace n call page i) h

told_in : (setup : Setup) (l : CallingLeg) (now : ℕ) (w : WaitingPacket) → IfNeat (Some l) → (answers l now).given ≡ Some w → w.packet ≡ mcf_packet → gives_mcf (told_calling setup (Some l) now) ≡ true
told_in setup l now w n is e = told_mcf setup l.given (answers l now).given w n.short (ticked_neat (core_of l) now n.core).given is e

own_now : (setup : Setup) (writes : Writing) (earlier : List Event) (at : ℕ) (given : Given) (l : CallingLeg) (c : ConfirmedPage) → IsTrace setup writes (Tick at given ∷ earlier) →
    calling_leg setup earlier ≡ Some l → confirmed_by (answers l (max at (clock earlier))).given ≡ Some c → IsNumber setup (Tick at given ∷ earlier) l.number c.page (confirmations_in setup earlier)
own_now setup writes earlier at given l c t is h =
    let now : ℕ = max at (clock earlier) in
    let g = given_with (answers l now).given c h in
    let r = gives_confirmations l.before l.begun now l.events g.0 c (leg_is_read setup writes earlier l t.1 is) g.1 g.2 in
    record {
      confirmed = record {
        later = [];
        at = at;
        given = given;
        earlier = earlier;
        split = refl;
        mcf = ap (λ (g : Given). gives_mcf g.on_calling) t.0 ∙ ap (λ (o : Option CallingLeg). gives_mcf (told_calling setup o now)) is
            ∙ told_in setup l now g.0 (subst IfNeat is (neat_of setup earlier)) g.1 r.0;
        leg = l;
        is_leg = is;
        in_call = refl;
        confirmed = c;
        same_page = refl;
        gives = h;
        confirmation = r.1;
      };
      before_it = refl;
    }

number_now : (setup : Setup) (writes : Writing) (earlier : List Event) (at : ℕ) (given : Given) (l : CallingLeg) (c : ConfirmedPage) → IsTrace setup writes (Tick at given ∷ earlier) →
    calling_leg setup earlier ≡ Some l → confirmed_by (answers l (max at (clock earlier))).given ≡ Some c → NumberOf setup (Tick at given ∷ earlier) (length (confirmed_told (both_legs setup writes earlier).steps)) l.number c.page
number_now setup writes earlier at given l c t is h =
    subst (λ (k : ℕ). NumberOf setup (Tick at given ∷ earlier) k l.number c.page) (sym (count_is setup writes earlier))
    (number_after (pages_restored setup.restored) (confirmations_in setup earlier) l.number c.page (IsNumber setup (Tick at given ∷ earlier) l.number c.page) (own_now setup writes earlier at given l c t is h))

-- so each confirmation among the book's steps has its number in the trace
ends_number : (P : ℕ → ℕ → PageValue → Type 0) (b : Bool) (steps : List Step) → Numbered P steps → Numbered P (ends_if b steps)
ends_number P true steps h = h
ends_number P false steps h = h

confirms_number : (P : ℕ → ℕ → PageValue → Type 0) (number : ℕ) (o : Option ConfirmedPage) (steps : List Step) → ((c : ConfirmedPage) → o ≡ Some c → P (length (confirmed_told steps)) number c.page) → Numbered P steps → Numbered P (confirms_if number o steps)
confirms_number P number None steps f h = h
confirms_number P number (Some c) steps f h = (f c refl, h)

heard_number : (setup : Setup) (writes : Writing) (earlier : List Event) (at : ℕ) (given : Given) (o : Option CallingLeg) → IsTrace setup writes (Tick at given ∷ earlier) → calling_leg setup earlier ≡ o →
    let P : ℕ → ℕ → PageValue → Type 0 = NumberOf setup (Tick at given ∷ earlier) in
    let steps : List Step = (both_legs setup writes earlier).steps in
    Numbered P steps → Numbered P (heard_in_tick o (max at (clock earlier)) steps)
heard_number setup writes earlier at given None t is h = h
heard_number setup writes earlier at given (Some l) t is h =
    let P : ℕ → ℕ → PageValue → Type 0 = NumberOf setup (Tick at given ∷ earlier) in
    let steps : List Step = (both_legs setup writes earlier).steps in
    let a = answers l (max at (clock earlier)) in
    ends_number P a.ended (confirms_if l.number (confirmed_by a.given) steps)
    (confirms_number P l.number (confirmed_by a.given) steps (λ c e. number_now setup writes earlier at given l c t is e) h)

sends_number : (setup : Setup) (P : ℕ → ℕ → PageValue → Type 0) (writes : Writing) (now : ℕ) (s : BothLegs) → Numbered P s.steps → Numbered P (sends_if setup writes now s).steps
sends_number setup P writes now s h = by (begins_next setup s.leg)
  where
    by : (b : Bool) → Numbered P (if◌then◌else◌ {A = BothLegs} b (sends true setup writes now s) s).steps
    by true = h
    by false = h

enters_number : (P : ℕ → ℕ → PageValue → Type 0) (delivered : ℕ) (o : Option Outcome) (steps : List Step) → Numbered P steps → Numbered P (enters delivered o steps)
enters_number P delivered None steps h = h
enters_number P delivered (Some outcome) steps h = h

event_number : (setup : Setup) (writes : Writing) (e : Event) (earlier : List Event) → IsTrace setup writes (e ∷ earlier) →
    let P : ℕ → ℕ → PageValue → Type 0 = NumberOf setup (e ∷ earlier) in
    Numbered P (both_legs setup writes earlier).steps → Numbered P (both_legs setup writes (e ∷ earlier)).steps
event_number setup writes (Ring at n) earlier t h = h
event_number setup writes (FromCalling octets at decided read) earlier t h =
    ends_number (NumberOf setup (FromCalling octets at decided read ∷ earlier)) (not (idle_after (calling_leg setup earlier)) && idle_after (calling_leg setup (FromCalling octets at decided read ∷ earlier))) (both_legs setup writes earlier).steps h
event_number setup writes (FromCalled octets at decided) earlier t h = h
event_number setup writes (Placed at connected) earlier t h = h
event_number setup writes (Tick at given) earlier t h =
    let P : ℕ → ℕ → PageValue → Type 0 = NumberOf setup (Tick at given ∷ earlier) in
    let now : ℕ = max at (clock earlier) in
    let s : BothLegs = both_legs setup writes earlier in
    let z : BothLegs = in_tick setup writes earlier at in
    enters_number P (delivered_told writes z.leg now) (outcome_told writes z.leg now) z.steps
    (sends_number setup P writes now (record s { steps = heard_in_tick (calling_leg setup earlier) now s.steps })
    (heard_number setup writes earlier at given (calling_leg setup earlier) t refl h))

numbered : (setup : Setup) (writes : Writing) (trace : List Event) → IsTrace setup writes trace → Numbered (NumberOf setup trace) (both_legs setup writes trace).steps
numbered setup writes [] t =
    numbers_restored (NumberOf setup []) setup.restored 0 []
    (record { at = refl; these = tt; others = each_number (λ call page. IsNumber setup [] call page) (pages_restored setup.restored) })
numbered setup writes (e ∷ earlier) t =
    event_number setup writes e earlier t
    (numbered_map (NumberOf setup earlier) (NumberOf setup (e ∷ earlier)) (both_legs setup writes earlier).steps (λ k call page i. number_later setup e earlier k call page i) (numbered setup writes earlier t.1))

-- THE LAW
own_of : (setup : Setup) (writes : Writing) (earlier : List Event) (marks : List Mark) (emission : Emission) (job : JobValue) (n : ℕ) → IsTrace setup writes earlier →
    (past_of (both_legs setup writes earlier)).book.sending ≡ Some job → IsPageOf job n emission → HasItsOwn setup writes earlier marks emission
own_of setup writes earlier marks emission job n t is p =
    let steps : List Step = (both_legs setup writes earlier).steps in
    let k : ℕ = length (pages_of (after_steps new_past steps).ended) + n in
    let i : NumberOf setup earlier k job.call p.page = at_place (NumberOf setup earlier) steps k (told_of job.call p.page) (numbered setup writes earlier t) (place_of steps job n p.page is p.is_page) in
    record { job = job; is_sending = is; n = n; is_page = p; confirmed = i }

at_tick : (setup : Setup) (writes : Writing) (earlier : List Event) (at : ℕ) (given : Given) → IsWriting writes → IsTrace setup writes (Tick at given ∷ earlier) → (begins : Bool) → begins_next setup (both_legs setup writes earlier).leg ≡ begins →
    EachEmission (HasItsOwn setup writes earlier) (marks_before setup writes earlier at (leg_marks setup writes earlier)) (elements_told given.on_called)
at_tick setup writes earlier at given w t true e =
    let now : ℕ = max at (clock earlier) in
    let s : BothLegs = both_legs setup writes earlier in
    let z : BothLegs = record s { steps = heard_in_tick (calling_leg setup earlier) now s.steps } in
    let marks : List Mark = marks_before setup writes earlier at (leg_marks setup writes earlier) in
    let o : Option JobValue = (book_of (sends true setup writes now z)).sending in
    let told : given.on_called ≡ told_called setup writes (leg_of true o (core_left setup writes s.leg) now s.leg) now =
    ap (λ (g : Given). g.on_called) t.0 ∙ ap (λ (b : Bool). told_called setup writes (if◌then◌else◌ {A = BothLegs} b (sends true setup writes now z) z).leg now) e in
    subst (λ (x : Option (List ℕ)). EachEmission (HasItsOwn setup writes earlier) marks (elements_told x)) (sym told)
    (free_none setup (HasItsOwn setup writes earlier) writes s.leg o now marks (begins_free setup.asks (is_free s.leg) e))
at_tick setup writes earlier at given w t false e =
    let now : ℕ = max at (clock earlier) in
    let s : BothLegs = both_legs setup writes earlier in
    let z : BothLegs = record s { steps = heard_in_tick (calling_leg setup earlier) now s.steps } in
    let marks : List Mark = marks_before setup writes earlier at (leg_marks setup writes earlier) in
    let same : (book_of (in_tick setup writes earlier at)).sending ≡ (book_of s).sending =
    ap (λ (b : Bool). (book_of (if◌then◌else◌ {A = BothLegs} b (sends true setup writes now z) z)).sending) e ∙ heard_sends (calling_leg setup earlier) now s.steps in
    each_emission (IsForwarded setup earlier (book_of (in_tick setup writes earlier at))) (HasItsOwn setup writes earlier) marks (elements_told given.on_called)
    (λ ms x p. own_of setup writes earlier ms x p.job p.n t.1 (sym same ∙ p.is_sending) p.is_page) (forwards setup writes earlier at given w t)

pub has_its_own : EachPageHasItsOwnConfirmation
has_its_own setup writes earlier at given w t = at_tick setup writes earlier at given w t (begins_next setup (both_legs setup writes earlier).leg) refl
