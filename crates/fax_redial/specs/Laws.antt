-- Laws of the tries of redial lines, over any list of what befalls them: begins, turns, words that are asked of their lines, and ends. Lists
-- have the newest first. (This project's profile.)
use Rattle.std.specs.Prelude.{◌≡◌, ℕ, ◌+◌, Bool, true, false, nat_eq, List, [], ◌∷◌, slice_get, Option, Some, None, if◌then◌else◌}
use Rattle.std.specs.List.{All}
use Rattle.fax_gateway.specs.Restored.{RestoredCall}
use Rattle.fax_line.specs.Actions.{BeginsWith, LineValue}
use Rattle.fax_line.specs.Runs.{DoneOrder}
use Rattle.fax_redial.specs.Befalls.{AreApart, Asked, Befall, Befell, Begun, Ended, Tries, Turned}
use Rattle.fax_redial.specs.Begun.{HasPages}
use Rattle.fax_redial.specs.Owing.{is_owed}
use Rattle.fax_redial.specs.Tries.{IsTried, TryValue, is_of, same_name}
use Rattle.fax_redial.specs.declared.job.RetryJob.{RetryJob}
use Rattle.fax_spool.specs.Torn.{CallName}

abbrev pub AreIdle : Tries → Type 0
AreIdle tries = All (λ held. held ≡ None) tries

-- NO JOB IS TRIED ON TWO REDIAL LINES AT ONE TIME.
abbrev pub NoJobIsTriedTwice : Type 0
NoJobIsTriedTwice = (befell : List Befall) (old new : Tries)
    → AreIdle old → Befell befell old new → AreApart new

-- ---- what a line owes when a try begins

abbrev pub AreNotOwed : List Befall → Type 0
AreNotOwed [] = Unit {0}
AreNotOwed (Begun k queues job line ∷ earlier) =
    (is_owed queues job.name ≡ false) × AreNotOwed earlier
AreNotOwed (Turned k now cause ∷ earlier) = AreNotOwed earlier
AreNotOwed (Asked k now what answer ∷ earlier) = AreNotOwed earlier
AreNotOwed (Ended k end ∷ earlier) = AreNotOwed earlier

-- NO JOB IS TRIED THAT ITS LINE OWES: no page of it waits on a queue as its try begins.
abbrev pub NoJobThatIsOwedIsTried : Type 0
NoJobThatIsOwedIsTried = (befell : List Befall) (old new : Tries)
    → Befell befell old new → AreNotOwed befell

-- ---- the job and the line of the try that began last on redial line i

pub record Beginning : Type 0 where
  pub job : RetryJob
  pub line : LineValue

abbrev pub begun_on : ℕ → List Befall → Option Beginning
begun_on i [] = None
begun_on i (Begun k queues job line ∷ earlier) =
    if nat_eq k i then Some (record { job = job; line = line }) else begun_on i earlier
begun_on i (Turned k now cause ∷ earlier) = begun_on i earlier
begun_on i (Asked k now what answer ∷ earlier) = begun_on i earlier
begun_on i (Ended k end ∷ earlier) = begun_on i earlier

-- a try that began so is of that job, whose numbers are those of the pages that line was restored with, and went on from that by itself,
-- whatever the calls of these pages are
abbrev pub HasBegun : Option Beginning → TryValue → Type 0
HasBegun None held = ⊥
HasBegun (Some begun) held =
    (held.job ≡ begun.job) × HasPages begun.job begun.line × ((calls : List RestoredCall)
    → BeginsWith calls begun.line → (done : List DoneOrder) × IsTried calls done held)

-- EACH TRY SENDS WHAT ITS LINE WAS RESTORED WITH, as it began: it is of the job that began last on its redial line, and no other one's
-- line is.
abbrev pub TriesAreOfTheirJobs : Type 0
TriesAreOfTheirJobs = (befell : List Befall) (old new : Tries)
    → AreIdle old → Befell befell old new → (i : ℕ) (held : TryValue)
    → slice_get new i ≡ Some (Some held) → HasBegun (begun_on i befell) held

-- ---- how often a job began, and how often its end was told

abbrev pub one_if : Bool → ℕ → ℕ
one_if true count = count + 1
one_if false count = count

abbrev pub times_begun : CallName → List Befall → ℕ
times_begun name [] = 0
times_begun name (Begun k queues job line ∷ earlier) =
    one_if (same_name job.name name) (times_begun name earlier)
times_begun name (Turned k now cause ∷ earlier) = times_begun name earlier
times_begun name (Asked k now what answer ∷ earlier) = times_begun name earlier
times_begun name (Ended k end ∷ earlier) = times_begun name earlier

abbrev pub times_ended : CallName → List Befall → ℕ
times_ended name [] = 0
times_ended name (Begun k queues job line ∷ earlier) = times_ended name earlier
times_ended name (Turned k now cause ∷ earlier) = times_ended name earlier
times_ended name (Asked k now what answer ∷ earlier) = times_ended name earlier
times_ended name (Ended k end ∷ earlier) =
    one_if (same_name end.name name) (times_ended name earlier)

abbrev pub times_on : CallName → Tries → ℕ
times_on name [] = 0
times_on name (held ∷ tries) = one_if (is_of name held) (times_on name tries)

-- EACH TRY OF A JOB THAT BEGAN IS ON, OR ITS END WAS TOLD ONCE.
abbrev pub EachEndIsToldOnce : Type 0
EachEndIsToldOnce = (befell : List Befall) (old new : Tries) → AreIdle old → Befell befell old new
    → (name : CallName) → times_begun name befell ≡ times_ended name befell + times_on name new
