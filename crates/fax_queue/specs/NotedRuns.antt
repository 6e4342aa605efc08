-- AFTER PUTS AND ENDS THAT ALL ANSWERED OK a restart finds what is owed, and nothing else. Lists have the oldest first, but those of
-- lives, events and orders, which have the newest first. (This project's profile.)
use Rattle.std.specs.Prelude.{◌≡◌, ◌≢◌, ◌⊎◌, ℕ, Bool, true, List, [], ◌∷◌, ◌++◌, map, Some, slice_get}
use Rattle.fax_jobs.specs.declared.report.Report.{Report}
use Rattle.fax_call.specs.Writings.{IsWriting, Writing}
use Rattle.fax_gateway.specs.Restored.{CallPage, RestoredCall, call_shown, pages_restored}
use Rattle.fax_gateway.specs.Setups.{Setup}
use Rattle.fax_gateway.specs.Lives.{Life, all_confirmed, all_ended, pages_left}
use Rattle.fax_line.specs.Places.{PlaceValue}
use Rattle.fax_line.specs.Runs.{DoneOrder}
use Rattle.fax_line.specs.StoredRuns.{IsRun, reports_of}
use Rattle.fax_line.specs.Settling.{has_page}
use Rattle.fax_line.specs.declared.settling.LineReport.{LineReport}
use Rattle.fax_line.specs.declared.settling.PageToStore.{PageToStore}
use Rattle.fax_line.specs.declared.settling.PutResult.{PutResult}
use Rattle.fax_spool.specs.RecordOctets as spool
use Rattle.fax_spool.specs.Opened.{closed}
use Rattle.fax_spool.specs.declared.spool.Spool.{Spool}
use Rattle.fax_queue.specs.Queues.{QueueValue}
use Rattle.fax_queue.specs.Restorations.{Restores, own_pages}
use Rattle.fax_queue.specs.declared.restored.RestoredLine.{RestoredLine}
use Rattle.fax_queue.specs.Jobs.{WaitSo}
use Rattle.fax_queue.specs.SpoolStorage.{EndAlone, IsUnchanged, NotesPage, PutsPages}
use Rattle.fax_queue.specs.Together.{EndsTogether}
use Rattle.fax_queue.specs.Book.{AllIsPut}
use Rattle.fax_queue.specs.Histories.{BeginsRun, HasPast, LeavesRun}

-- pages were put, and the answer was Ok where one of this line was among them
abbrev pub PutsWithOk : {D : Type 0}
    → (D → List ℕ) → (D → List ℕ → Type 0) → (D → Bool) → (number : ℕ)
    → List PageToStore → Bool → List QueueValue → List QueueValue → Spool D → Spool D → Type 0
PutsWithOk seen may_leave is_usable number pages is_stored olds news before after =
    (has_page pages number ≡ true → is_stored ≡ true)
    × PutsPages seen may_leave is_usable pages is_stored olds news before after

-- a page that was not handed over, as for want of memory, was none of this line
abbrev pub NotesOther : {D : Type 0}
    → (number : ℕ) → ℕ → ℕ → List QueueValue → List QueueValue → Spool D → Spool D → Type 0
NotesOther number line call olds news before after =
    (line ≢ number) × NotesPage line call olds news before after

-- the end of a job of this line was noted, where it was put with others
abbrev pub IsNotedWith : {D : Type 0} (seen : D → List ℕ)
    (may_leave : D → List ℕ → Type 0) (is_usable : D → Bool) (number : ℕ)
    (jobs : List LineReport) (olds news : List QueueValue) (before after : Spool D)
    → EndsTogether seen may_leave is_usable jobs olds news before after → Type 0
IsNotedWith seen may_leave is_usable number jobs olds news before after together =
    (report : Report) (old new : QueueValue) (is : reports_of number jobs ≡ report ∷ [])
    (there : slice_get olds number ≡ Some old) (now : slice_get news number ≡ Some new)
    → (together.each number report old new is there now).0 ≡ true

-- and where it was put alone
abbrev pub IsNotedAlone : {D : Type 0} (seen : D → List ℕ)
    (may_leave : D → List ℕ → Type 0) (is_usable : D → Bool) (number : ℕ)
    (jobs : List LineReport) (olds news : List QueueValue) (before after : Spool D)
    → EndAlone seen may_leave is_usable jobs olds news before after → Type 0
IsNotedAlone seen may_leave is_usable number [] olds news before after alone = Unit {0}
IsNotedAlone seen may_leave is_usable number (one ∷ jobs) olds news before after alone =
    (one.line ≡ number → alone.2.noted ≡ true)
    × IsNotedAlone seen may_leave is_usable number jobs alone.0 news alone.1 after alone.3

-- jobs ended, and where one of this line was among them its end was noted: the answer was Ok
abbrev pub EndsNoted : {D : Type 0} → (D → List ℕ) → (D → List ℕ → Type 0)
    → (D → Bool) → (number : ℕ) → List LineReport
    → List QueueValue → List QueueValue → Spool D → Spool D → Type 0
EndsNoted seen may_leave is_usable number jobs olds news before after =
    ((together : EndsTogether seen may_leave is_usable jobs olds news before after)
    × IsNotedWith seen may_leave is_usable number jobs olds news before after together)
    ⊎ ((alone : EndAlone seen may_leave is_usable jobs olds news before after)
    × IsNotedAlone seen may_leave is_usable number jobs olds news before after alone)

-- A RUN IN WHICH ALL PUTS OF A LINE'S PAGES AND ALL ENDS OF ITS JOBS ANSWERED OK, whatever became of other lines.
abbrev pub RanWithOks : {D K : Type 0} → (D → List ℕ)
    → (D → List ℕ → Type 0) → (D → Bool) → (K → List QueueValue) → (K → Spool D) → (number : ℕ)
    → List DoneOrder → List PutResult → List PlaceValue → List PlaceValue → K → K → Type 0
RanWithOks {D} {K} seen may_leave is_usable queues_of spool_of number = IsRun
    (λ (old new : K). IsUnchanged (queues_of old) (queues_of new) (spool_of old) (spool_of new))
    (λ (pages : List PageToStore) (is_stored : Bool) (old new : K).
    PutsWithOk seen may_leave is_usable number pages is_stored (queues_of old)
    (queues_of new) (spool_of old) (spool_of new)) (λ (line call : ℕ) (old new : K).
    NotesOther number line call (queues_of old) (queues_of new) (spool_of old) (spool_of new))
    (λ (ended : List LineReport) (old new : K). EndsNoted seen may_leave
    is_usable number ended (queues_of old) (queues_of new) (spool_of old) (spool_of new))

-- A PAST IN WHICH ALL WAS PUT AND NOTED: each page that was confirmed is on the disk, and so is the end of each job.
pub record HasWholePast (writes : Writing) (line : List ℕ)
    (lives : List Life) (puts : List CallPage) (pages : List spool.PageValue) : Type 0 where
  pub past : HasPast writes line lives puts pages
  pub all : AllIsPut past.actions

-- A run leaves a line so; and in its past, whatever crash follows, all was put and noted.
pub record LeavesWhole {D : Type 0} (seen : D → List ℕ)
    (may_leave : D → List ℕ → Type 0) (is_usable : D → Bool) (writes : Writing)
    (number : ℕ) (line : List ℕ) (lives : List Life) (puts : List CallPage) (setup : Setup)
    (settled : List PutResult) (lines : List PlaceValue) (spool : Spool D) : Type 0 where
  pub leaves :
      LeavesRun seen may_leave is_usable writes number line lives puts setup settled lines spool
  pub whole : WaitSo seen may_leave is_usable spool (HasWholePast writes line (record {
    setup = setup;
    trace = leaves.trace;
  } ∷ lives) (puts ++ leaves.kept))

-- ---- laws

-- SUCH A RUN leaves the line such a past, where it had one, with one life more.
abbrev pub RunsNoteAll : {D K : Type 0} → (D → List ℕ)
    → (D → List ℕ → Type 0) → (D → Bool) → (K → List QueueValue) → (K → Spool D) → Type 0
RunsNoteAll {D} {K} seen may_leave is_usable queues_of spool_of =
    (writes : Writing) (number : ℕ) (line : List ℕ) (pages : List spool.PageValue)
    (lives : List Life) (puts : List CallPage) (setup : Setup) (done : List DoneOrder)
    (settled : List PutResult) (begun left : List PlaceValue) (before after : K)
    → IsWriting writes → HasWholePast writes line lives puts pages
    → BeginsRun seen may_leave is_usable number line pages setup begun (queues_of before)
    (spool_of before) → RanWithOks seen may_leave is_usable
    queues_of spool_of number done settled begun left before after → LeavesWhole seen
    may_leave is_usable writes number line lives puts setup settled left (spool_of after)

-- The pages of the calls that a life begins with are those that the gateway's book had left; and in front of them those of the jobs that
-- ended, over all lives, they are the pages that were confirmed, in their order. So no page of a job that was reported comes again.
pub record FindsWhatIsLeft (writes : Writing) (lives : List Life) (restored : List RestoredCall) :
    Type 0 where
  pub found : pages_restored restored ≡ pages_left writes lives
  pub once : all_confirmed lives ≡ all_ended writes lives ++ pages_restored restored

-- A RESTART FINDS WHAT IS OWED, AND NOTHING ELSE, after such a past.
abbrev pub RestartsFindWhatIsLeft : Type 0
RestartsFindWhatIsLeft = (writes : Writing) (line : List ℕ) (lives : List Life)
    (puts : List CallPage) (pages : List spool.PageValue) (restored : RestoredLine)
    → HasWholePast writes line lives puts pages → Restores line (closed pages) restored
    → FindsWhatIsLeft writes lives (map call_shown restored.calls.items)

-- There are such pasts: a line of which no page waits has one with no life, and by `RunsNoteAll` each such run adds one.
abbrev pub NewLinesHaveWholePasts : Type 0
NewLinesHaveWholePasts = (writes : Writing) (line : List ℕ) (pages : List spool.PageValue)
    → own_pages line pages ≡ [] → HasWholePast writes line [] [] pages
