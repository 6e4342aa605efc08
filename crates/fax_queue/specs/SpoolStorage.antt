-- What a run makes of the pages that are stored on a disk: of the queues of its lines, and of the spool. (This project's profile.)
use Rattle.std.specs.Prelude.{◌≡◌, ◌⊎◌, ◌<◌, ℕ, Bool, true, false, List, [], ◌∷◌, length, All, Some, slice_get}
use Rattle.fax_jobs.specs.declared.report.Report.{Report}
use Rattle.fax_line.specs.declared.settling.LineReport.{LineReport}
use Rattle.fax_line.specs.declared.settling.PageToStore.{PageToStore}
use Rattle.fax_spool.specs.Calls.{Accepts, Refuses}
use Rattle.fax_spool.specs.Waits.{PageName}
use Rattle.fax_spool.specs.declared.spool.Spool.{Spool}
use Rattle.fax_queue.specs.declared.end_fault.EndFault.{EndFault}
use Rattle.fax_queue.specs.EndFaults.{IsWhyAt}
use Rattle.fax_queue.specs.Jobs.{EndsJobAt}
use Rattle.fax_queue.specs.Storing.{AddsAt, Agree, AllAreAmong, ArePut, HaveOwnNames}
use Rattle.fax_queue.specs.Refusals.{AreRefused, EndsSomehowAt, notes_of}
use Rattle.fax_queue.specs.Queues.{QueueValue}
use Rattle.fax_queue.specs.Together.{EndsTogether}

-- both are as they were
pub record IsUnchanged {D : Type 0} (olds news : List QueueValue) (before after : Spool D) :
    Type 0 where
  pub queues : news ≡ olds
  pub spool : after ≡ before

-- Pages were put, all of them at once: where the answer is Ok they are on the disk and on the queues of their lines (`ArePut`);
-- where it is not, they are on the queues alone, and on the disk all of them or none (`AreRefused`): then no queue says more to be
-- on the disk than it did. A spool that refuses answers so, and nothing changes in it.
pub record PutsPages {D : Type 0} (seen : D → List ℕ)
    (may_leave : D → List ℕ → Type 0) (is_usable : D → Bool) (pages : List PageToStore)
    (is_stored : Bool) (olds news : List QueueValue) (before after : Spool D) : Type 0 where
  pub put : is_stored ≡ true → ArePut seen may_leave is_usable pages olds news before after
  pub agree : is_stored ≡ true
      → Agree seen may_leave is_usable before olds → Agree seen may_leave is_usable after news
  pub refused : is_stored ≡ false → All (λ page. page.line < length olds) pages
      → AreRefused seen may_leave is_usable pages olds news before after
  pub names : is_stored ≡ false
      → (names : List PageName) → AllAreAmong olds names → AllAreAmong news names
  pub refuses : Refuses before → (is_stored ≡ false) × (after ≡ before)

-- a page of a line that was not handed over is noted: it is on the queue, and no queue says more to be on the disk than it did
pub record NotesPage {D : Type 0} (line call : ℕ)
    (olds news : List QueueValue) (before after : Spool D) : Type 0 where
  pub spool : after ≡ before
  pub waits : (life number : ℕ) × AddsAt (record {
    life = life;
    call = call;
    number = number;
    is_stored = false;
  }) line olds news
  pub names : (names : List PageName) → AllAreAmong olds names → AllAreAmong news names

-- The end of a job of a line was noted, as the job of so many pages as its report counts that is first on its line's queue
-- (`EndsJobAt`); or it was not, for one of these faults (`IsWhyAt`): then it has a record on the disk, or none, or none of its pages is
-- there (`EndsSomehowAt`). A spool that refuses notes none, and nothing changes in it.
pub record EndsJobIf {D : Type 0} (seen : D → List ℕ)
    (may_leave : D → List ℕ → Type 0) (is_usable : D → Bool) (line : ℕ)
    (report : Report) (olds news : List QueueValue) (before after : Spool D) : Type 0 where
  pub noted : Bool
  pub ends : noted ≡ true
      → EndsJobAt seen may_leave is_usable report.pages line olds news before after
  pub why : noted ≡ false → (fault : EndFault) × IsWhyAt fault report.pages line olds after
  pub left : noted ≡ false → line < length olds
      → EndsSomehowAt seen may_leave is_usable report.pages line olds news before after
  pub agree : noted ≡ true → HaveOwnNames olds → Agree seen may_leave is_usable before olds
      → Accepts after → Agree seen may_leave is_usable after news
  pub sure : noted ≡ true
      → (queue : QueueValue) → slice_get olds line ≡ Some queue → notes_of before queue ≡ true
  pub refuses : Refuses before → (noted ≡ false) × (after ≡ before)

-- Jobs ended, one after the other.
abbrev pub EndAlone : {D : Type 0} → (D → List ℕ) → (D → List ℕ → Type 0) → (D → Bool)
    → List LineReport → List QueueValue → List QueueValue → Spool D → Spool D → Type 0
EndAlone seen may_leave is_usable [] olds news before after = (news ≡ olds) × (after ≡ before)
EndAlone {D} seen may_leave is_usable (one ∷ others) olds news before after =
    (mids : List QueueValue) × (between : Spool D)
    × EndsJobIf seen may_leave is_usable one.line one.report olds mids before between
    × EndAlone seen may_leave is_usable others mids news between after

-- JOBS OF LINES ENDED: all of them at once, or one after the other.
abbrev pub EndsJobs : {D : Type 0} → (D → List ℕ) → (D → List ℕ → Type 0) → (D → Bool)
    → List LineReport → List QueueValue → List QueueValue → Spool D → Spool D → Type 0
EndsJobs seen may_leave is_usable jobs olds news before after =
    EndsTogether seen may_leave is_usable jobs olds news before after
    ⊎ EndAlone seen may_leave is_usable jobs olds news before after
