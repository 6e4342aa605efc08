-- One life of a gateway: the pages that it was restored with, and those that it confirmed, are those of its jobs that ended, and
-- after them those that are left.
use Rattle.std.proofs.Common.{◌≡◌, ◌∙◌, ℕ, ◌+◌, Bool, true, false, not, List, [], ◌∷◌, ◌++◌, length, map, Option, Some, None, Result, Ok, Err, refl, sym, ap, arith, append_assoc, if◌then◌else◌}
use Rattle.std.proofs.lemmas.List.{append-nil, append_cancel_right}
use Rattle.fax_udptl.specs.declared.fault.UdptlFault.{UdptlFault}
use Rattle.fax_udptl.specs.Datagrams.{DatagramValue, datagram_of}
use Rattle.fax_pagestore.specs.Pages.{PageValue}
use Rattle.fax_jobs.specs.declared.report.Report.{Report}
use Rattle.fax_jobs.specs.Jobs.{JobValue}
use Rattle.fax_jobs.specs.Pasts.{AreReported, Past, as_list, jobs_of}
use Rattle.fax_jobs.specs.Cuts.{Confirmation, IsCutOf, IsCutSoFar, IsJobOf, pages_by}
use Rattle.fax_answer.specs.Replies.{ConfirmedPage}
use Rattle.fax_answer.specs.Table.{Reading}
use Rattle.fax_call.specs.Writings.{Writing}
use Rattle.fax_gateway.specs.Restored.{CallPage, RestoredCall, pages_restored, pages_with}
use Rattle.fax_gateway.specs.Setups.{Setup}
use Rattle.fax_gateway.specs.Events.{Event, Given, Ring, FromCalling, FromCalled, Tick, Placed, clock, rings}
use Rattle.fax_gateway.specs.CallingLegs.{CallingLeg, calling_after, calling_leg, core_of, idle_after, is_idle, leg_ticked, leg_with}
use Rattle.fax_gateway.specs.Cuts.{AreCutsOf, AreCutsOfRestored, IsBookOf, JobsAreCut, calls_of, confirmed_at, with_confirmed}
use Rattle.fax_gateway.specs.Lives.{page_list, pages_at, pages_confirmed, pages_in, pages_left_in, pages_of_jobs}
use Rattle.fax_gateway.specs.Reports.{JobsHaveStates, reports_given}
use Rattle.fax_gateway.specs.BothLegs.{book_of, both_legs, past_of}
use Rattle.fax_gateway.specs.Traces.{IsTrace}
use Rattle.fax_queue.specs.Book.{sizes}

-- ---- the pages of jobs that are cut from confirmations

pub jobs-append : (js ks : List JobValue) → pages_of_jobs (js ++ ks) ≡ pages_of_jobs js ++ pages_of_jobs ks
jobs-append [] ks = refl
jobs-append (j ∷ js) ks = ap (λ (x : List CallPage). pages_in j.call j.pages ++ x) (jobs-append js ks) ∙ sym (append_assoc (pages_in j.call j.pages) (pages_of_jobs js) (pages_of_jobs ks))

with-append : (call : ℕ) (cs ds : List Confirmation) → pages_with call (cs ++ ds) ≡ pages_with call cs ++ pages_with call ds
with-append call [] ds = refl
with-append call (c ∷ cs) ds = ap (λ (x : List CallPage). record { call = call; page = c.page } ∷ x) (with-append call cs ds)

by_pages : (call : ℕ) (cs : List Confirmation) → pages_in call (pages_by cs) ≡ pages_with call cs
by_pages call [] = refl
by_pages call (c ∷ cs) = ap (λ (x : List CallPage). record { call = call; page = c.page } ∷ x) (by_pages call cs)

job_pages : (call : ℕ) (own others : List Confirmation) (job : JobValue) → IsJobOf call own others job → pages_in job.call job.pages ≡ pages_with call own
job_pages call own others job is =
    ap (λ (n : ℕ). pages_in n job.pages) is.same_call ∙ ap (λ (ps : List PageValue). pages_in call ps) is.same_pages ∙ by_pages call own

cut_pages : (call : ℕ) (cs : List Confirmation) (jobs : List JobValue) → IsCutOf call cs jobs → pages_of_jobs jobs ≡ pages_with call cs
cut_pages call cs [] is = ap (λ (x : List Confirmation). pages_with call x) (sym is)
cut_pages call cs (job ∷ jobs) is =
    ap (λ (x : List CallPage). x ++ pages_of_jobs jobs) (job_pages call is.0 is.1 job is.3)
    ∙ ap (λ (x : List CallPage). pages_with call is.0 ++ x) (cut_pages call is.1 jobs is.4)
    ∙ sym (with-append call is.0 is.1) ∙ ap (λ (x : List Confirmation). pages_with call x) (sym is.2)

so_far_pages : (call : ℕ) (cs : List Confirmation) (jobs : List JobValue) (o : Option JobValue) → IsCutSoFar call cs jobs o → pages_of_jobs jobs ++ pages_of_jobs (as_list o) ≡ pages_with call cs
so_far_pages call cs [] None is = ap (λ (x : List Confirmation). pages_with call x) (sym is)
so_far_pages call cs [] (Some job) is = append-nil (pages_in job.call job.pages) ∙ job_pages call cs [] job is.0
so_far_pages call cs (job ∷ jobs) o is =
    append_assoc (pages_in job.call job.pages) (pages_of_jobs jobs) (pages_of_jobs (as_list o))
    ∙ ap (λ (x : List CallPage). x ++ (pages_of_jobs jobs ++ pages_of_jobs (as_list o))) (job_pages call is.0 is.1 job is.3)
    ∙ ap (λ (x : List CallPage). pages_with call is.0 ++ x) (so_far_pages call is.1 jobs o is.5)
    ∙ sym (with-append call is.0 is.1) ∙ ap (λ (x : List Confirmation). pages_with call x) (sym is.2)

restored_pages : (calls : List RestoredCall) (jobs : List JobValue) → AreCutsOfRestored calls jobs → pages_of_jobs jobs ≡ pages_restored calls
restored_pages [] jobs are = ap (λ (x : List JobValue). pages_of_jobs x) are
restored_pages (call ∷ calls) jobs are =
    ap (λ (x : List JobValue). pages_of_jobs x) are.2 ∙ jobs-append are.0 are.1
    ∙ ap (λ (x : List CallPage). x ++ pages_of_jobs are.1) (cut_pages call.number call.confirmed are.0 are.3)
    ∙ ap (λ (x : List CallPage). pages_with call.number call.confirmed ++ x) (restored_pages calls are.1 are.4)

-- the pages of calls, the newest of which is the first
abbrev in_calls : List (List Confirmation) → List CallPage
in_calls [] = []
in_calls (cs ∷ calls) = in_calls calls ++ pages_with (length calls) cs

call_pages : (restored : List RestoredCall) (calls : List (List Confirmation)) (jobs : List JobValue) → AreCutsOf restored calls jobs → pages_of_jobs jobs ≡ pages_restored restored ++ in_calls calls
call_pages restored [] jobs are = restored_pages restored jobs are ∙ sym (append-nil (pages_restored restored))
call_pages restored (cs ∷ calls) jobs are =
    ap (λ (x : List JobValue). pages_of_jobs x) are.2 ∙ jobs-append are.0 are.1
    ∙ ap (λ (x : List CallPage). x ++ pages_of_jobs are.1) (call_pages restored calls are.0 are.4)
    ∙ ap (λ (x : List CallPage). (pages_restored restored ++ in_calls calls) ++ x) (cut_pages (length calls) cs are.1 are.3)
    ∙ append_assoc (pages_restored restored) (in_calls calls) (pages_with (length calls) cs)

book_pages : (restored : List RestoredCall) (on : Bool) (calls : List (List Confirmation)) (past : Past) → IsBookOf restored on calls past
    → pages_of_jobs (jobs_of past) ++ pages_of_jobs (as_list past.book.open_job) ≡ pages_restored restored ++ in_calls calls
book_pages restored false calls past is =
    ap (λ (o : Option JobValue). pages_of_jobs (jobs_of past) ++ pages_of_jobs (as_list o)) is.1 ∙ append-nil (pages_of_jobs (jobs_of past))
    ∙ call_pages restored calls (jobs_of past) is.0
book_pages restored true [] past is = absurd is
book_pages restored true (cs ∷ calls) past is =
    let unclosed : List CallPage = pages_of_jobs (as_list past.book.open_job) in
    ap (λ (x : List JobValue). pages_of_jobs x ++ unclosed) is.jobs_are ∙ ap (λ (x : List CallPage). x ++ unclosed) (jobs-append is.old is.own)
    ∙ append_assoc (pages_of_jobs is.old) (pages_of_jobs is.own) unclosed
    ∙ ap (λ (x : List CallPage). x ++ (pages_of_jobs is.own ++ unclosed)) (call_pages restored calls is.old is.before)
    ∙ ap (λ (x : List CallPage). (pages_restored restored ++ in_calls calls) ++ x) (so_far_pages (length calls) cs is.own past.book.open_job is.cut)
    ∙ append_assoc (pages_restored restored) (in_calls calls) (pages_with (length calls) cs)

-- ---- the calls of a trace have the numbers of their rings

-- the leg's call is the last of these, and its number is how many were before it
abbrev IsLast : Option CallingLeg → List (List Confirmation) → Type 0
IsLast None calls = calls ≡ []
IsLast (Some l) [] = ⊥
IsLast (Some l) (cs ∷ calls) = l.number ≡ length calls

same_last : (l m : CallingLeg) (calls : List (List Confirmation)) → m.number ≡ l.number → IsLast (Some l) calls → IsLast (Some m) calls
same_last l m [] same is = absurd is
same_last l m (cs ∷ calls) same is = same ∙ is

rung_last : (setup : Setup) (now at number : ℕ) (o : Option CallingLeg) (calls : List (List Confirmation)) → number ≡ length calls → IsLast (calling_after setup o now (Ring at number)) ([] ∷ calls)
rung_last setup now at number None calls is = is
rung_last setup now at number (Some l) calls is = is

with_last : (l : CallingLeg) (now : ℕ) (read : Reading) (d : Result DatagramValue UdptlFault) (calls : List (List Confirmation)) → IsLast (Some l) calls → IsLast (Some (leg_with l now read d)) calls
with_last l now read (Ok d) calls is = same_last l (leg_with l now read (Ok d)) calls refl is
with_last l now read (Err fault) calls is = is

heard_if : (l m : CallingLeg) (b : Bool) (calls : List (List Confirmation)) → IsLast (Some l) calls → IsLast (Some m) calls → IsLast (if◌then◌else◌ {A = Option CallingLeg} b (Some l) (Some m)) calls
heard_if l m true calls is too = is
heard_if l m false calls is too = too

heard_last : (setup : Setup) (now : ℕ) (octets : List ℕ) (at : ℕ) (decided : Bool) (read : Reading) (o : Option CallingLeg) (calls : List (List Confirmation)) → IsLast o calls
    → IsLast (calling_after setup o now (FromCalling octets at decided read)) calls
heard_last setup now octets at decided read None calls is = is
heard_last setup now octets at decided read (Some l) calls is =
    heard_if l (leg_with l now read (datagram_of octets)) (is_idle (core_of l).state) calls is (with_last l now read (datagram_of octets) calls is)

passed_last : (setup : Setup) (now : ℕ) (octets : List ℕ) (at : ℕ) (decided : Bool) (o : Option CallingLeg) (calls : List (List Confirmation)) → IsLast o calls
    → IsLast (calling_after setup o now (FromCalled octets at decided)) calls
passed_last setup now octets at decided None calls is = is
passed_last setup now octets at decided (Some l) calls is = is

placed_last : (setup : Setup) (now at : ℕ) (connected : Bool) (o : Option CallingLeg) (calls : List (List Confirmation)) → IsLast o calls → IsLast (calling_after setup o now (Placed at connected)) calls
placed_last setup now at connected None calls is = is
placed_last setup now at connected (Some l) calls is = is

one_last : (l : CallingLeg) (o : Option ConfirmedPage) (calls : List (List Confirmation)) → IsLast (Some l) calls → IsLast (Some l) (with_confirmed o calls)
one_last l None calls is = is
one_last l (Some c) [] is = absurd is
one_last l (Some c) (cs ∷ calls) is = is

ticked_last : (setup : Setup) (now at : ℕ) (given : Given) (o : Option CallingLeg) (calls : List (List Confirmation)) → IsLast o calls
    → IsLast (calling_after setup o now (Tick at given)) (with_confirmed (confirmed_at o now) calls)
ticked_last setup now at given None calls is = is
ticked_last setup now at given (Some l) calls is =
    let calls_now : List (List Confirmation) = with_confirmed (confirmed_at (Some l) now) calls in
    same_last l (leg_ticked l now) calls_now refl (one_last l (confirmed_at (Some l) now) calls is)

one_more : (xs : List (List Confirmation)) (n : ℕ) → length xs ≡ n → length ([] ∷ xs) ≡ n + 1
one_more xs n e = omega arith

as_many : (o : Option ConfirmedPage) (leg : Option CallingLeg) (calls : List (List Confirmation)) → IsLast leg calls → (leg ≡ None → o ≡ None) → length (with_confirmed o calls) ≡ length calls
as_many None leg calls is none = refl
as_many (Some c) None calls is none = absurd (let e : Some c ≡ None = none refl in cc)
as_many (Some c) (Some l) [] is none = absurd is
as_many (Some c) (Some l) (cs ∷ calls) is none = refl

none_on : (now : ℕ) (leg : Option CallingLeg) → leg ≡ None → confirmed_at leg now ≡ None
none_on now leg is = ap (λ (o : Option CallingLeg). confirmed_at o now) is

record CallsAre (setup : Setup) (trace : List Event) : Type 0 where
  last : IsLast (calling_leg setup trace) (calls_of setup trace)
  many : length (calls_of setup trace) ≡ rings trace

calls_are : (setup : Setup) (writes : Writing) (trace : List Event) → IsTrace setup writes trace → CallsAre setup trace
calls_are setup writes [] t = record { last = refl; many = refl }
calls_are setup writes (Ring at number ∷ earlier) t =
    let was : CallsAre setup earlier = calls_are setup writes earlier t.1 in
    record {
      last = rung_last setup (clock (Ring at number ∷ earlier)) at number (calling_leg setup earlier) (calls_of setup earlier) (t.0.0 ∙ sym was.many);
      many = one_more (calls_of setup earlier) (rings earlier) was.many;
    }
calls_are setup writes (FromCalling octets at decided read ∷ earlier) t =
    let was : CallsAre setup earlier = calls_are setup writes earlier t.1 in
    record {
      last = heard_last setup (clock (FromCalling octets at decided read ∷ earlier)) octets at decided read (calling_leg setup earlier) (calls_of setup earlier) was.last;
      many = was.many;
    }
calls_are setup writes (FromCalled octets at decided ∷ earlier) t =
    let was : CallsAre setup earlier = calls_are setup writes earlier t.1 in
    record {
      last = passed_last setup (clock (FromCalled octets at decided ∷ earlier)) octets at decided (calling_leg setup earlier) (calls_of setup earlier) was.last;
      many = was.many;
    }
calls_are setup writes (Placed at connected ∷ earlier) t =
    let was : CallsAre setup earlier = calls_are setup writes earlier t.1 in
    record {
      last = placed_last setup (clock (Placed at connected ∷ earlier)) at connected (calling_leg setup earlier) (calls_of setup earlier) was.last;
      many = was.many;
    }
calls_are setup writes (Tick at given ∷ earlier) t =
    let was : CallsAre setup earlier = calls_are setup writes earlier t.1 in
    let now : ℕ = clock (Tick at given ∷ earlier) in
    let leg : Option CallingLeg = calling_leg setup earlier in
    record {
      last = ticked_last setup now at given leg (calls_of setup earlier) was.last;
      many = as_many (confirmed_at leg now) leg (calls_of setup earlier) was.last (none_on now leg) ∙ was.many;
    }

one_told : (l : CallingLeg) (o : Option ConfirmedPage) (calls : List (List Confirmation)) → IsLast (Some l) calls → in_calls (with_confirmed o calls) ≡ in_calls calls ++ page_list l.number o
one_told l None calls is = sym (append-nil (in_calls calls))
one_told l (Some c) [] is = absurd is
one_told l (Some c) (cs ∷ calls) is =
    let front : List CallPage = in_calls calls in
    let own : List CallPage = pages_with (length calls) cs in
    ap (λ (x : List CallPage). front ++ x) (with-append (length calls) cs (record { page = c.page; closes = c.closes } ∷ []))
    ∙ sym (append_assoc front own (record { call = length calls; page = c.page } ∷ []))
    ∙ ap (λ (n : ℕ). (front ++ own) ++ record { call = n; page = c.page } ∷ []) (sym is)

tick_told : (now : ℕ) (o : Option CallingLeg) (calls : List (List Confirmation)) → IsLast o calls → in_calls (with_confirmed (confirmed_at o now) calls) ≡ in_calls calls ++ pages_at o now
tick_told now None calls is = sym (append-nil (in_calls calls))
tick_told now (Some l) calls is = one_told l (confirmed_at (Some l) now) calls is

calls_told : (setup : Setup) (writes : Writing) (trace : List Event) → IsTrace setup writes trace → in_calls (calls_of setup trace) ≡ pages_confirmed setup trace
calls_told setup writes [] t = refl
calls_told setup writes (Ring at number ∷ earlier) t = append-nil (in_calls (calls_of setup earlier)) ∙ calls_told setup writes earlier t.1
calls_told setup writes (FromCalling octets at decided read ∷ earlier) t = calls_told setup writes earlier t.1
calls_told setup writes (FromCalled octets at decided ∷ earlier) t = calls_told setup writes earlier t.1
calls_told setup writes (Placed at connected ∷ earlier) t = calls_told setup writes earlier t.1
calls_told setup writes (Tick at given ∷ earlier) t =
    let now : ℕ = clock (Tick at given ∷ earlier) in
    tick_told now (calling_leg setup earlier) (calls_of setup earlier) (calls_are setup writes earlier t.1).last
    ∙ ap (λ (x : List CallPage). x ++ pages_at (calling_leg setup earlier) now) (calls_told setup writes earlier t.1)

-- ---- so the pages are these

pub life_pages : JobsAreCut → (setup : Setup) (writes : Writing) (trace : List Event) → IsTrace setup writes trace
    → pages_restored setup.restored ++ pages_confirmed setup trace ≡ pages_of_jobs (past_of (both_legs setup writes trace)).ended ++ pages_left_in (book_of (both_legs setup writes trace))
life_pages cut setup writes trace t =
    let past : Past = past_of (both_legs setup writes trace) in
    let sent : List JobValue = as_list past.book.sending in
    let unclosed : List CallPage = pages_of_jobs (as_list past.book.open_job) in
    ap (λ (x : List CallPage). pages_restored setup.restored ++ x) (sym (calls_told setup writes trace t))
    ∙ sym (book_pages setup.restored (not (idle_after (calling_leg setup trace))) (calls_of setup trace) past (cut setup writes trace t))
    ∙ ap (λ (x : List CallPage). x ++ unclosed) (jobs-append past.ended (sent ++ past.book.waiting) ∙ ap (λ (x : List CallPage). pages_of_jobs past.ended ++ x) (jobs-append sent past.book.waiting))
    ∙ append_assoc (pages_of_jobs past.ended) (pages_of_jobs sent ++ pages_of_jobs past.book.waiting) unclosed
    ∙ ap (λ (x : List CallPage). pages_of_jobs past.ended ++ x) (append_assoc (pages_of_jobs sent) (pages_of_jobs past.book.waiting) unclosed)

-- ---- the reports are of the jobs that ended

-- how many pages each report tells
abbrev pub counts_of : List Report → List ℕ
counts_of reports = map (λ report. report.pages) reports

sizes_are : (jobs : List JobValue) (reports : List Report) → AreReported jobs reports → sizes jobs ≡ counts_of reports
sizes_are [] [] are = refl
sizes_are [] (report ∷ reports) are = absurd are
sizes_are (job ∷ jobs) [] are = absurd are
sizes_are (job ∷ jobs) (report ∷ reports) are = ap (λ (n : ℕ). n ∷ sizes jobs) (sym are.2) ∙ ap (λ (ns : List ℕ). report.pages ∷ ns) (sizes_are jobs reports are.3)

pub life_sizes : JobsHaveStates → (setup : Setup) (writes : Writing) (trace : List Event) → IsTrace setup writes trace
    → sizes (past_of (both_legs setup writes trace)).ended ≡ counts_of (reports_given trace)
life_sizes states setup writes trace t =
    let past : Past = past_of (both_legs setup writes trace) in
    let have = states setup writes trace t in
    let rest : List JobValue = as_list past.book.sending ++ past.book.waiting in
    let same : past.ended ++ rest ≡ have.ended ++ rest = have.jobs_are ∙ ap (λ (o : Option JobValue). have.ended ++ (as_list o ++ past.book.waiting)) (sym have.sending) in
    ap (λ (jobs : List JobValue). sizes jobs) (append_cancel_right past.ended have.ended rest same) ∙ sizes_are have.ended (reports_given trace) have.are_reported
