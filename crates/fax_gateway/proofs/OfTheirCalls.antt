-- Each page of a job was confirmed in the call that the job names.
use Rattle.std.proofs.Common.{ℕ, List, [], ◌∷◌, ◌++◌, Option, Some, None}
use Rattle.fax_pagestore.specs.Pages.{PageValue}
use Rattle.fax_jobs.specs.declared.outcome.Outcome.{Outcome}
use Rattle.fax_jobs.specs.Jobs.{JobValue}
use Rattle.fax_jobs.specs.Pasts.{Step, Confirms, CallEnds, Sends, Ends, Past, new_past, ended_if, after_steps, as_list, jobs_of}
use Rattle.fax_gateway.specs.Setups.{Setup}
use Rattle.fax_gateway.specs.Events.{Event}
use Rattle.fax_gateway.specs.BothLegs.{both_legs, past_of}
use Rattle.fax_gateway.specs.Forwards.{WasConfirmed}
use Rattle.fax_gateway.specs.Origins.{AreConfirmed, AreOfTheirCalls, JobsAreOfTheirCalls}
use Rattle.fax_gateway.proofs.Held.{EachPage, IfHolds, AllHold, BookHolds, StepsHold, held}
use Rattle.fax_gateway.proofs.Confirmed.{steps_hold}

both_hold : (P : ℕ → PageValue → Type 0) (jobs others : List JobValue) → AllHold P jobs → AllHold P others → AllHold P (jobs ++ others)
both_hold P [] others a b = b
both_hold P (job ∷ jobs) others a b = (a.0, both_hold P jobs others a.1 b)

list_holds : (P : ℕ → PageValue → Type 0) (o : Option JobValue) → IfHolds P o → AllHold P (as_list o)
list_holds P None h = tt
list_holds P (Some job) h = (h, tt)

-- the jobs that ended
ended_hold : (P : ℕ → PageValue → Type 0) (o : Option JobValue) (past : Past) (outcome : Outcome) (delivered : ℕ) → AllHold P past.ended → IfHolds P o → AllHold P (ended_if o past outcome delivered).ended
ended_hold P None past outcome delivered a h = a
ended_hold P (Some job) past outcome delivered a h = both_hold P past.ended (job ∷ []) a (h, tt)

all_ended : (P : ℕ → PageValue → Type 0) (steps : List Step) → StepsHold P steps → AllHold P (after_steps new_past steps).ended
all_ended P [] h = tt
all_ended P (Confirms call page closes ∷ before) h = all_ended P before h.1.1
all_ended P (CallEnds ∷ before) h = all_ended P before h
all_ended P (Sends ∷ before) h = all_ended P before h
all_ended P (Ends outcome delivered ∷ before) h =
    let past : Past = after_steps new_past before in ended_hold P past.book.sending past outcome delivered (all_ended P before h) (held P before h).sending

-- as the law says it
pages_are : (setup : Setup) (trace : List Event) (call : ℕ) (pages : List PageValue) → EachPage (WasConfirmed setup trace call) pages → AreConfirmed setup trace call pages
pages_are setup trace call [] e = tt
pages_are setup trace call (page ∷ pages) e = (e.0, pages_are setup trace call pages e.1)

jobs_are : (setup : Setup) (trace : List Event) (jobs : List JobValue) → AllHold (WasConfirmed setup trace) jobs → AreOfTheirCalls setup trace jobs
jobs_are setup trace [] a = tt
jobs_are setup trace (job ∷ jobs) a = (record { is_job = a.0.is_job; confirmed = pages_are setup trace job.call job.pages a.0.pages }, jobs_are setup trace jobs a.1)

pub of_their_calls : JobsAreOfTheirCalls
of_their_calls setup writes trace t =
    let P : ℕ → PageValue → Type 0 = WasConfirmed setup trace in
    let steps : List Step = (both_legs setup writes trace).steps in
    let past : Past = past_of (both_legs setup writes trace) in
    let h : StepsHold P steps = steps_hold setup writes trace t in
    let b : BookHolds P past.book = held P steps h in (
      jobs_are setup trace (jobs_of past) (both_hold P past.ended (as_list past.book.sending ++ past.book.waiting) (all_ended P steps h)
          (both_hold P (as_list past.book.sending) past.book.waiting (list_holds P past.book.sending b.sending) b.waiting)),
      jobs_are setup trace (as_list past.book.open_job) (list_holds P past.book.open_job b.open_job),
    )
