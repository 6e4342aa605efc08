-- THE JOBS OF MANY LINES END at once. Lists have the oldest first. (This project's profile.)
use Rattle.std.specs.Prelude.{◌≡◌, ◌≢◌, ◌⊎◌, ◌<◌, ℕ, zero, suc, Bool, true, false, is_ok, List, [], ◌∷◌, ◌++◌, count_by, drop, length, take, Some, slice_get}
use Rattle.fax_jobs.specs.declared.report.Report.{Report}
use Rattle.fax_line.specs.StoredRuns.{reports_of}
use Rattle.fax_line.specs.declared.settling.LineReport.{LineReport}
use Rattle.fax_spool.specs.RecordOctets.{EndedValue, PageValue}
use Rattle.fax_spool.specs.Calls.{Accepts, Does, Refuses, Rests}
use Rattle.fax_spool.specs.Calls.{Ends as EndsCall}
use Rattle.fax_spool.specs.Waits.{without_all}
use Rattle.fax_spool.specs.declared.spool.Spool.{Spool}
use Rattle.fax_queue.specs.declared.end_fault.EndFault.{EndFault}
use Rattle.fax_queue.specs.declared.end_fault.EndFault.TheVariants as faults
use Rattle.fax_queue.specs.declared.ending.PlannedEnd.{PlannedEnd}
use Rattle.fax_queue.specs.declared.queue.EndedJob.{EndedJob}
use Rattle.fax_queue.specs.Jobs.{WaitSo}
use Rattle.fax_queue.specs.Storing.{Agree, HaveOwnNames}
use Rattle.fax_queue.specs.Queues.{IsEndOf, IsFirstJob, NamesFirst, QueueValue, left_by, lines_of, stored_count}

-- ---- one job

-- THE JOB THAT IS FIRST IN TURN LEAVES its line's queue, which stays whole, and a record of its end can be put.
pub record IsTaken (pages : ℕ) (ended : EndedJob) (old new : QueueValue) : Type 0 where
  pub line_is : new.line ≡ old.line
  pub whole : old.is_whole ≡ true
  pub names : NamesFirst pages ended old.waits
  pub gone : new.waits ≡ drop pages old.waits
  pub still : new.is_whole ≡ true
  pub short : length old.line < 256

-- why no record of it can be, by its queue
abbrev pub IsNotTaken : EndFault → (pages : ℕ) → (was : QueueValue) → Type 0
IsNotTaken faults.NoLine pages was = ⊥
IsNotTaken faults.Unsure pages was = (was.is_whole ≡ false) ⊎ (¬ IsFirstJob pages was.waits)
IsNotTaken faults.NoneThere pages was = stored_count (take pages was.waits) ≡ 0
IsNotTaken faults.LongName pages was = 255 < length was.line
IsNotTaken faults.NoMemory pages was = ⊥
IsNotTaken faults.DiskFailed pages was = ⊥
IsNotTaken faults.NotStored pages was = ⊥

-- none of its pages is on the disk, and they leave the queue
pub record LetsGo (pages : ℕ) (old new : QueueValue) : Type 0 where
  pub whole : old.is_whole ≡ true
  pub none : count_by (λ page. page.is_stored) (take pages old.waits) ≡ 0
  pub gone : new.waits ≡ drop pages old.waits

-- Its end is not noted: from then on no job of the line is told to have ended; or there is nothing to be noted.
pub record StaysUnnoted (pages : ℕ) (old new : QueueValue) : Type 0 where
  pub line_is : new.line ≡ old.line
  pub stays : (new.is_whole ≡ false) ⊎ LetsGo pages old new
  pub waits : (new.waits ≡ old.waits) ⊎ (new.waits ≡ drop pages old.waits)

-- ---- the jobs of many lines, whose records are to be put

-- one more, or its end is not noted
abbrev pub Plans : LineReport
    → QueueValue → QueueValue → List PlannedEnd → List PlannedEnd → Type 0
Plans one old new before after = ((ended : EndedJob) × IsTaken one.report.pages ended old new
    × (after ≡ before ++ record { line = one.line; report = one.report; ended = ended } ∷ []))
    ⊎ (StaysUnnoted one.report.pages old new × (after ≡ before))

-- none of them is of the line at this place
abbrev pub NoneIsOf : ℕ → List PlannedEnd → Type 0
NoneIsOf place [] = Unit {0}
NoneIsOf place (one ∷ plan) = (one.line ≢ place) × NoneIsOf place plan

-- the job of the line at this place is among them, once
pub record IsPlanned (report : Report) (place : ℕ) (plan : List PlannedEnd) (old new : QueueValue) :
    Type 0 where
  pub ended : EndedJob
  pub before : List PlannedEnd
  pub after : List PlannedEnd
  pub is : plan ≡ before ++ record { line = place; report = report; ended = ended } ∷ after
  pub alone : NoneIsOf place before × NoneIsOf place after
  pub taken : IsTaken report.pages ended old new

-- Of each line its job leaves its queue, and is among them; or its end is not noted. No other queue changes.
pub record Planned (jobs : List LineReport) (olds news : List QueueValue) (plan : List PlannedEnd) :
    Type 0 where
  pub lines : lines_of news ≡ lines_of olds
  pub others : (place : ℕ) → reports_of place jobs ≡ []
      → (slice_get news place ≡ slice_get olds place) × NoneIsOf place plan
  pub each : (place : ℕ) (report : Report) (old new : QueueValue)
      → reports_of place jobs ≡ report ∷ [] → slice_get olds place ≡ Some old
      → slice_get news place ≡ Some new → IsPlanned report place plan old new
      ⊎ (StaysUnnoted report.pages old new × NoneIsOf place plan)

-- these are their records, under the names of their lines
abbrev pub AreEndsOf : List (List ℕ) → List PlannedEnd → List EndedValue → Type 0
AreEndsOf names [] [] = Unit {0}
AreEndsOf names (one ∷ plan) (kept ∷ others) = ((name : List ℕ)
    × (slice_get names one.line ≡ Some name) × IsEndOf one.ended name kept)
    × AreEndsOf names plan others
AreEndsOf names plan kept = ⊥

-- They are put, all of them at once; or nothing is done.
abbrev pub MayPutEnds : {D : Type 0} → (D → List ℕ) → (D → List ℕ → Type 0) → (D → Bool)
    → List (List ℕ) → List PlannedEnd → Bool → Spool D → Spool D → Type 0
MayPutEnds seen may_leave is_usable names plan is_ok before after =
    ((is_ok ≡ false) × (after ≡ before)) ⊎ ((kept : List EndedValue) × AreEndsOf names plan kept
    × Does seen may_leave is_usable (EndsCall kept) is_ok before after)

-- no job of the line at this place is told to have ended from now on
abbrev pub unsure_at : ℕ → List QueueValue → List QueueValue
unsure_at place [] = []
unsure_at zero (queue ∷ queues) = record queue { is_whole = false } ∷ queues
unsure_at (suc place) (queue ∷ queues) = queue ∷ unsure_at place queues

abbrev pub unsure_all : List PlannedEnd → List QueueValue → List QueueValue
unsure_all [] queues = queues
unsure_all (one ∷ plan) queues = unsure_all plan (unsure_at one.line queues)

-- ---- what a run makes of them

-- each of these records names a line at another place than this
abbrev pub AreOfOthers : List (List ℕ) → ℕ → List EndedValue → Type 0
AreOfOthers names place [] = Unit {0}
AreOfOthers names place (kept ∷ others) = ((other : ℕ) × (other ≢ place)
    × (slice_get names other ≡ Some kept.line)) × AreOfOthers names place others

-- The record of the end of a job is among these, once; it names the job's pages, which are the first of its line's queue.
pub record HasRecord (names : List (List ℕ)) (pages place : ℕ) (kept : List EndedValue)
    (old new : QueueValue) : Type 0 where
  pub ended : EndedValue
  pub before : List EndedValue
  pub after : List EndedValue
  pub is : kept ≡ before ++ ended ∷ after
  pub alone : AreOfOthers names place before × AreOfOthers names place after
  pub line_is : new.line ≡ old.line
  pub named : ended.line ≡ old.line
  pub whole : old.is_whole ≡ true
  pub leaves : left_by ended old.line old.waits ≡ drop pages old.waits

-- the same where it was put: its pages left the queue
pub record IsNotedSo (names : List (List ℕ)) (pages place : ℕ) (kept : List EndedValue)
    (old new : QueueValue) : Type 0 where
  pub has : HasRecord names pages place kept old new
  pub gone : new.waits ≡ drop pages old.waits
  pub still : new.is_whole ≡ true

-- The end of a job is noted, where the records were put; or it is not: they may be on the disk, and no later end of the line is noted;
-- or there is no record of it.
abbrev pub EndsOne : (is_noted : Bool) → List (List ℕ)
    → (pages place : ℕ) → List EndedValue → (is_ok : Bool) → QueueValue → QueueValue → Type 0
EndsOne true names pages place kept is_ok old new =
    (is_ok ≡ true) × IsNotedSo names pages place kept old new
EndsOne false names pages place kept is_ok old new =
    ((is_ok ≡ false) × HasRecord names pages place kept old new × (new.is_whole ≡ false))
    ⊎ (StaysUnnoted pages old new × AreOfOthers names place kept)

-- JOBS OF LINES ENDED, of each line one at most: their records were put, all of them at once, after which none of their pages waits; and
-- where the answer is no Ok each crash leaves all of these records or none. No other queue changes. What the queues say to be on the disk
-- is there, where it was. A spool that refuses notes none, and
-- nothing changes in it.
pub record EndsTogether {D : Type 0} (seen : D → List ℕ)
    (may_leave : D → List ℕ → Type 0) (is_usable : D → Bool) (jobs : List LineReport)
    (olds news : List QueueValue) (before after : Spool D) : Type 0 where
  pub kept : List EndedValue
  pub is_ok : Bool
  pub lines : lines_of news ≡ lines_of olds
  pub others : (place : ℕ) → reports_of place jobs ≡ []
      → (slice_get news place ≡ slice_get olds place) × AreOfOthers (lines_of olds) place kept
  pub each : (place : ℕ) (report : Report) (old new : QueueValue)
      → reports_of place jobs ≡ report ∷ [] → slice_get olds place ≡ Some old
      → slice_get news place ≡ Some new → (is_noted : Bool)
      × EndsOne is_noted (lines_of olds) report.pages place kept is_ok old new
  pub wait : is_ok ≡ true → (waits : List PageValue) → Rests seen may_leave is_usable before waits
      → WaitSo seen may_leave is_usable after (λ told. told ≡ without_all kept waits)
  pub left : is_ok ≡ false → (waits : List PageValue) → Rests seen may_leave is_usable before waits
      → WaitSo seen may_leave is_usable after
      (λ told. (told ≡ waits) ⊎ (told ≡ without_all kept waits))
  pub agree : is_ok ≡ true → HaveOwnNames olds → Agree seen may_leave is_usable before olds
      → Accepts after → Agree seen may_leave is_usable after news
  pub refuses : Refuses before → (is_ok ≡ false) × (after ≡ before)
