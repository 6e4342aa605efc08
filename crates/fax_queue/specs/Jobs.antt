-- The pages that wait on a disk, and what the end of a job makes of them. (This project's profile.)
use Rattle.std.specs.Prelude.{◌≡◌, ◌⊎◌, ◌≤◌, ℕ, Bool, true, List, [], drop, map, Some, slice_get, slice_set}
use Rattle.fax_spool.specs.RecordOctets.{EndedValue, PageValue}
use Rattle.fax_spool.specs.Calls.{EachCrashTells, Refuses, Rests}
use Rattle.fax_spool.specs.Spools.{AreClean, NoneIsLeft, Stores, files_of}
use Rattle.fax_spool.specs.Waits.{ended_by, name_of, without}
use Rattle.fax_spool.specs.declared.spool_record.SpoolRecord.{SpoolRecord}
use Rattle.fax_spool.specs.declared.spool.Spool.{Spool}
use Rattle.fax_queue.specs.declared.queue.EndedJob.{EndedJob}
use Rattle.fax_queue.specs.Queues.{AreAmong, IsEndOf, NamesLeft, QueueValue, left_by, not_delivered}

-- Pages wait on the disk of which this holds; or the spool refuses everything from now on, and each crash tells such pages.
abbrev pub WaitSo : {D : Type 0} → (D → List ℕ)
    → (D → List ℕ → Type 0) → (D → Bool) → Spool D → (List PageValue → Type 0) → Type 0
WaitSo seen may_leave is_usable now P =
    ((told : List PageValue) × Rests seen may_leave is_usable now told × P told)
    ⊎ (Refuses now × EachCrashTells may_leave now P)

-- NO FILE IS KEPT FOR NOTHING: where the older one has records, one of its pages waits.
pub record IsTidy {D : Type 0} (seen : D → List ℕ)
    (may_leave : D → List ℕ → Type 0) (is_usable : D → Bool) (spool : Spool D) : Type 0 where
  pub olds : List SpoolRecord
  pub news : List SpoolRecord
  pub kept : Stores seen may_leave is_usable spool olds news
  pub tidy : NoneIsLeft olds news → olds ≡ []

-- A JOB OF SO MANY PAGES ENDED: they are the first of its line's queue, and leave it, which stays whole; and the record of its end is on
-- the disk, whatever crash follows, which names no page that stays on the queue.
pub record EndsJob {D : Type 0} (seen : D → List ℕ) (may_leave : D → List ℕ → Type 0)
    (is_usable : D → Bool) (pages : ℕ) (old new : QueueValue) (before after : Spool D) :
    Type 0 where
  pub ended : EndedValue
  pub line_is : new.line ≡ old.line
  pub named : ended.line ≡ old.line
  pub first : new.waits ≡ drop pages old.waits
  pub whole : new.is_whole ≡ true
  pub leaves : left_by ended old.line old.waits ≡ new.waits
  pub wait : (waits : List PageValue) → Rests seen may_leave is_usable before waits
      → WaitSo seen may_leave is_usable after (λ told. told ≡ without ended waits)

-- the same of the line at a place among the others, which stay as they were
pub record EndsJobAt {D : Type 0} (seen : D → List ℕ)
    (may_leave : D → List ℕ → Type 0) (is_usable : D → Bool)
    (pages place : ℕ) (olds news : List QueueValue) (before after : Spool D) : Type 0 where
  pub old : QueueValue
  pub new : QueueValue
  pub was : slice_get olds place ≡ Some old
  pub is : slice_get news place ≡ Some new
  pub are : news ≡ slice_set olds place new
  pub ends : EndsJob seen may_leave is_usable pages old new before after

-- ---- the pages of a job that were not delivered

-- pages were read from the disk by the record of these: where nothing wrong was read, they are just those that wait there and that it names
pub record ReadsNamed {D : Type 0} (seen : D → List ℕ)
    (may_leave : D → List ℕ → Type 0) (is_usable is_clean : D → Bool) (left : EndedJob)
    (line : List ℕ) (before after : Spool D) (read : List PageValue) : Type 0 where
  pub ended : EndedValue
  pub is_end : IsEndOf left line ended
  pub found : AreClean is_clean (files_of after) → (waits : List PageValue)
      → Rests seen may_leave is_usable before waits → read ≡ ended_by ended waits

-- and that record names those of a job that were not delivered
pub record AreLeft {D : Type 0} (seen : D → List ℕ)
    (may_leave : D → List ℕ → Type 0) (is_usable is_clean : D → Bool) (pages delivered : ℕ)
    (queue : QueueValue) (before after : Spool D) (read : List PageValue) : Type 0 where
  pub left : EndedJob
  pub names : NamesLeft pages delivered left queue.waits
  pub reads : ReadsNamed seen may_leave is_usable is_clean left queue.line before after read

-- THE PAGES OF A JOB THAT WERE NOT DELIVERED WERE READ, of so many of which the first so many were: each that the queue of its line says to be
-- on the disk is among them, and no page of another job is.
pub record ReadsLeft {D : Type 0} (seen : D → List ℕ)
    (may_leave : D → List ℕ → Type 0) (is_usable is_clean : D → Bool) (pages delivered : ℕ)
    (queue : QueueValue) (before after : Spool D) (read : List PageValue) : Type 0 where
  pub all : AreAmong queue.line (not_delivered pages delivered queue.waits) (map name_of read)
  pub are : ((pages ≤ delivered) × (read ≡ []))
      ⊎ AreLeft seen may_leave is_usable is_clean pages delivered queue before after read
