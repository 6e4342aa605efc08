-- What befalls the tries of all redial lines. Lists have the newest first. (This project's profile.)
use Rattle.std.specs.Prelude.{◌≡◌, ℕ, Bool, true, false, nat_eq, List, [], ◌∷◌, length, slice_get, slice_set, Option, Some, None, Result, Ok, Err, if◌then◌else◌}
use Rattle.std.specs.List.{list_any}
use Rattle.fax_desk.specs.declared.questions.Cause.{Cause}
use Rattle.fax_line.specs.Actions.{LineValue}
use Rattle.fax_line.specs.declared.asked.LineAnswer.{LineAnswer}
use Rattle.fax_line.specs.declared.asked.LineRequest.{LineRequest}
use Rattle.fax_queue.specs.Queues.{QueueValue}
use Rattle.fax_redial.specs.Owing.{is_owed}
use Rattle.fax_redial.specs.Tries.{Begins, IsAsked, TryValue, Turns, end_of, is_of, is_over}
use Rattle.fax_redial.specs.declared.fault.BeginFault.{BeginFault}
use Rattle.fax_redial.specs.declared.fault.BeginFault.TheVariants as faults
use Rattle.fax_redial.specs.declared.job.RetryEnd.{RetryEnd}
use Rattle.fax_redial.specs.declared.job.RetryJob.{RetryJob}
use Rattle.fax_spool.specs.Torn.{CallName}

-- the try on each redial line, in their order, where it has one
abbrev pub Tries : Type 0
Tries = List (Option TryValue)

-- no two are of one job
abbrev pub AreApart : Tries → Type 0
AreApart tries = (i k : ℕ) (one other : TryValue) → slice_get tries i ≡ Some (Some one)
    → slice_get tries k ≡ Some (Some other) → one.job.name ≡ other.job.name → i ≡ k

-- a job is tried on one of them
abbrev pub is_under_way : CallName → Tries → Bool
is_under_way name tries = list_any (is_of name) tries

-- the job of the try on one of them
abbrev pub job_at : Option (Option TryValue) → Option RetryJob
job_at None = None
job_at (Some None) = None
job_at (Some (Some held)) = Some held.job

-- ---- whether a try begins

abbrev pub fault_of_job : (is_tried is_owed_now : Bool) → (waiting : ℕ) → Option BeginFault
fault_of_job true is_owed_now waiting = Some faults.UnderWay
fault_of_job false true waiting = Some faults.Owed
fault_of_job false false waiting = if nat_eq waiting 0 then Some faults.NoPage else None

abbrev pub fault_at : Option (Option TryValue)
    → (is_tried is_owed_now : Bool) → (waiting : ℕ) → Option BeginFault
fault_at None is_tried is_owed_now waiting = Some faults.NoLine
fault_at (Some (Some held)) is_tried is_owed_now waiting = Some faults.Busy
fault_at (Some None) is_tried is_owed_now waiting = fault_of_job is_tried is_owed_now waiting

-- NONE BEGINS of a job that is tried already, or that its own line owes, or on a line that has a try, or without a page.
abbrev pub fault_of : Tries → ℕ → List QueueValue → RetryJob → LineValue → Option BeginFault
fault_of tries i queues job line = fault_at (slice_get tries i)
    (is_under_way job.name tries) (is_owed queues job.name) (length line.gateway.book.waiting)

-- else it begins, but for want of memory
abbrev pub BeginsUnless : Option BeginFault → Result (Unit {0}) BeginFault → Type 0
BeginsUnless (Some fault) result = result ≡ Err fault
BeginsUnless None (Ok done) = Unit {0}
BeginsUnless None (Err fault) = fault ≡ faults.NoMemory

-- ---- what befalls the try of one line: all others stay as they were

pub record BeginsAt (i : ℕ)
    (queues : List QueueValue) (job : RetryJob) (line : LineValue) (old new : Tries) : Type 0 where
  pub free : slice_get old i ≡ Some None
  pub other : is_under_way job.name old ≡ false
  pub not_owed : is_owed queues job.name ≡ false
  pub held : TryValue
  pub begins : Begins job line held
  pub tries : new ≡ slice_set old i (Some held)

pub record TurnsAt (i now : ℕ) (cause : Option Cause) (old new : Tries) : Type 0 where
  pub held : TryValue
  pub there : slice_get old i ≡ Some (Some held)
  pub next : TryValue
  pub turns : Turns now cause held next
  pub tries : new ≡ slice_set old i (Some next)

pub record IsAskedAt (i now : ℕ)
    (what : LineRequest) (answer : Option LineAnswer) (old new : Tries) : Type 0 where
  pub held : TryValue
  pub there : slice_get old i ≡ Some (Some held)
  pub next : TryValue
  pub asked : IsAsked now what answer held next
  pub tries : new ≡ slice_set old i (Some next)

pub record EndsAt (i : ℕ) (end : RetryEnd) (old new : Tries) : Type 0 where
  pub held : TryValue
  pub there : slice_get old i ≡ Some (Some held)
  pub over : is_over held ≡ true
  pub end_is : end ≡ end_of held
  pub tries : new ≡ slice_set old i None

pub data Befall : Type 0 where
  Begun : (i : ℕ) → (queues : List QueueValue) → (job : RetryJob) → (line : LineValue) → Befall
  Turned : (i now : ℕ) → (cause : Option Cause) → Befall
  Asked : (i now : ℕ) → (what : LineRequest) → (answer : Option LineAnswer) → Befall
  Ended : (i : ℕ) → (end : RetryEnd) → Befall

abbrev pub IsBefallen : Befall → Tries → Tries → Type 0
IsBefallen (Begun i queues job line) old new = BeginsAt i queues job line old new
IsBefallen (Turned i now cause) old new = TurnsAt i now cause old new
IsBefallen (Asked i now what answer) old new = IsAskedAt i now what answer old new
IsBefallen (Ended i end) old new = EndsAt i end old new

-- one after the other, and nothing else
abbrev pub Befell : List Befall → Tries → Tries → Type 0
Befell [] old new = new ≡ old
Befell (befall ∷ earlier) old new =
    (between : Tries) × Befell earlier old between × IsBefallen befall between new

abbrev pub is_over_if : Option TryValue → Bool
is_over_if None = false
is_over_if (Some held) = is_over held
