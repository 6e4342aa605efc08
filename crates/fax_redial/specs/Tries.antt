-- A try of a job: one line, restored with its pages. Lists of what was done have the newest first. (This project's profile.)
use Rattle.std.specs.Prelude.{◌≡◌, ℕ, ◌&&◌, Bool, true, false, nat_eq, bytes_eq, is_some, not, List, [], ◌∷◌, ◌++◌, length, slice_get, Option, Some, None}
use Rattle.fax_desk.specs.declared.questions.Cause.{Cause}
use Rattle.fax_gateway.specs.Restored.{RestoredCall}
use Rattle.fax_gateway.specs.declared.turn_report.TurnReport.{TurnReport}
use Rattle.fax_jobs.specs.Books.{Book}
use Rattle.fax_jobs.specs.declared.report.Report.{Report}
use Rattle.fax_line.specs.Actions.{BeginsWith, LineValue}
use Rattle.fax_line.specs.Operations.{AreFree, LinesValue, LinesWent}
use Rattle.fax_line.specs.Places.{PlaceValue, Visit}
use Rattle.fax_line.specs.Runs.{AreServed, AskedOf, DoneOrder, Turned, Woken, latest, next_slot, none_waits, operations_of}
use Rattle.fax_line.specs.StoredRuns.{RanWithout}
use Rattle.fax_line.specs.declared.asked.LineAnswer.{LineAnswer}
use Rattle.fax_line.specs.declared.asked.LineRequest.{LineRequest}
use Rattle.fax_redial.specs.Begun.{HasPages}
use Rattle.fax_redial.specs.Totals.{end_if, no_total, total_if}
use Rattle.fax_redial.specs.declared.job.RetryEnd.{RetryEnd}
use Rattle.fax_redial.specs.declared.job.RetryJob.{RetryJob}
use Rattle.fax_redial.specs.declared.total.TryTotal.{TryTotal}
use Rattle.fax_spool.specs.Torn.{CallName}

-- its job, its line, in slot 0 of lines of its own, the latest moment that these were told, and what its reports came to
pub record TryValue : Type 0 where
  pub job : RetryJob
  pub lines : LinesValue
  pub moment : ℕ
  pub total : TryTotal

-- WHAT A TRY SENDS. Its line began with these calls, no event had come to it, and by itself it went through this since, and through nothing
-- else; it had its turn in each one of its slot, and what that gave went out at once: it waits for nothing. So each law of a line that is
-- restored holds of it, and of a run without a store.
pub record IsTried (calls : List RestoredCall) (done : List DoneOrder) (held : TryValue) :
    Type 0 where
  pub place : PlaceValue
  pub begins : BeginsWith calls place.line
  pub went : LinesWent (operations_of done) (place ∷ []) held.lines.lines
  pub ran : RanWithout done (place ∷ []) held.lines.lines
  pub served : AreServed 0 done none_waits
  pub free : AreFree held.lines.lines
  pub slot : held.lines.slot ≡ next_slot 0 done
  pub moment : held.moment ≡ latest done

-- it went on by this, whatever it was restored with and went through before
pub record GoesOn (more : List DoneOrder) (old new : TryValue) : Type 0 where
  pub goes : (calls : List RestoredCall) (done : List DoneOrder)
      → IsTried calls done old → IsTried calls (more ++ done) new

-- ---- a try begins

pub record Begins (begun : RetryJob) (line : LineValue) (new : TryValue) : Type 0 where
  pub job : new.job ≡ begun
  pub total : new.total ≡ no_total
  pub pages : HasPages begun line
  pub tried : (calls : List RestoredCall) → BeginsWith calls line → IsTried calls [] new

-- ---- it has a turn: in that of slot 0 its line tells something

abbrev pub turned_of : Option PlaceValue → Option TurnReport
turned_of None = None
turned_of (Some place) = Some place.line.turned

abbrev pub told_if : Bool → List PlaceValue → Option TurnReport
told_if false lines = None
told_if true lines = turned_of (slice_get lines 0)

abbrev pub told_by : (old new : TryValue) → Option TurnReport
told_by old new = told_if (nat_eq old.lines.slot 0) new.lines.lines

abbrev pub report_of : Option TurnReport → Option Report
report_of None = None
report_of (Some turned) = turned.report

-- Where a job is reported in it, that counts, with the cause for which its call was not placed.
pub record Turns (now : ℕ) (cause : Option Cause) (old new : TryValue) : Type 0 where
  pub job : new.job ≡ old.job
  pub visits : ℕ → Visit
  pub goes : GoesOn (Turned now visits ∷ Woken 0 ∷ []) old new
  pub total : new.total ≡ total_if (report_of (told_by old new)) cause old.total

-- ---- something is asked of its line

pub record IsAsked (now : ℕ)
    (what : LineRequest) (answer : Option LineAnswer) (old new : TryValue) : Type 0 where
  pub job : new.job ≡ old.job
  pub goes : GoesOn (AskedOf 0 now what answer ∷ []) old new
  pub total : new.total ≡ old.total

-- ---- it is over: no job of its line waits, and none is being sent

abbrev pub has_ended : Book → Bool
has_ended book = nat_eq (length book.waiting) 0 && not (is_some book.sending)

abbrev pub over_if : Option PlaceValue → Bool
over_if None = true
over_if (Some place) = has_ended place.line.gateway.book

abbrev pub is_over : TryValue → Bool
is_over held = over_if (slice_get held.lines.lines 0)

abbrev pub end_of : TryValue → RetryEnd
end_of held = end_if held.job held.total.delivered held.total.failed

-- ---- which job it is of

abbrev pub same_name : CallName → CallName → Bool
same_name one other =
    nat_eq one.life other.life && nat_eq one.call other.call && bytes_eq one.line other.line

abbrev pub is_of : CallName → Option TryValue → Bool
is_of name None = false
is_of name (Some held) = same_name held.job.name name
