-- RUNS OVER FILES IN WHICH ALL PUTS OF A LINE'S PAGES AND ALL ENDS OF ITS JOBS ANSWERED OK: a restart finds what is owed, and nothing else. Lists of lives have the newest
-- first. (This project's profile.)
use Rattle.std.specs.Prelude.{ℕ, ◌<◌, Bool, List, [], ◌∷◌, ◌++◌, length, map}
use Rattle.std.specs.List.{All}
use Rattle.fax_call.specs.Writings.{IsWriting, Writing}
use Rattle.fax_gateway.specs.Restored.{CallPage, call_shown}
use Rattle.fax_gateway.specs.Lives.{Life}
use Rattle.fax_spool.specs.RecordOctets as spool
use Rattle.fax_spool.specs.Calls.{TellWaits}
use Rattle.fax_spool.specs.Opened.{AreBoth, IsOpened}
use Rattle.fax_spool.specs.Spools.{MayLeaveBoth, Tells}
use Rattle.fax_spool.specs.declared.opening.OpenedSpool.{OpenedSpool}
use Rattle.fax_spool.specs.declared.spool.Spool.{Spool}
use Rattle.fax_queue.specs.Queues.{QueueValue}
use Rattle.fax_queue.specs.Restorations.{Restores}
use Rattle.fax_queue.specs.declared.restored.RestoredLine.{RestoredLine}
use Rattle.fax_queue.specs.NotedRuns.{FindsWhatIsLeft, HasWholePast, RanWithOks}
use Rattle.fax_runs.specs.restarts.Files.{CanBeTold, file_of}
use Rattle.fax_runs.specs.restarts.Runs.{IsLifeOf, OneRun, WasRun, told_of}

-- A LINE HAS THIS PAST OVER TWO FILES, in which all was put and noted: they tell pages that wait, after which it has these lives.
pub record HasWholePastOver (writes : Writing)
    (line : List ℕ) (lives : List Life) (puts : List CallPage) (older newer : List ℕ) : Type 0 where
  pub pages : List spool.PageValue
  pub tell : TellWaits older newer pages
  pub past : HasWholePast writes line lives puts pages

-- over new files nothing was done
abbrev pub NewFilesHaveWholePasts : Type 0
NewFilesHaveWholePasts = (writes : Writing) (line older newer : List ℕ)
    → Tells older [] → Tells newer [] → HasWholePastOver writes line [] [] older newer

-- Each such past can be had over files, one of which is not empty.
abbrev pub WholePastsHaveFiles : Type 0
WholePastsHaveFiles = (writes : Writing) (line : List ℕ) (lives : List Life) (puts : List CallPage)
    (pages : List spool.PageValue) → HasWholePast writes line lives puts pages → All CanBeTold pages
    → (0 < length (file_of pages)) × HasWholePastOver writes line lives puts [] (file_of pages)

-- It ran, and all puts of the line's pages and all ends of its jobs answered Ok.
pub record WasRunWithOks {D K : Type 0} (seen : D → List ℕ)
    (may_leave : D → List ℕ → Type 0) (is_usable : D → Bool) (queues_of : K → List QueueValue)
    (spool_of : K → Spool D) (line : List ℕ) (run : OneRun D K) : Type 0 where
  pub was : WasRun seen may_leave is_usable queues_of spool_of line run
  pub oks : RanWithOks seen may_leave is_usable queues_of
      spool_of run.number run.done run.settled run.begun run.left run.before run.after

-- what such a run was to a line: one life more, in which all was put and noted, whatever a crash leaves of its files
pub record LeavesWholeOver {D K : Type 0} (may_leave : D → List ℕ → Type 0)
    (spool_of : K → Spool D) (writes : Writing)
    (line : List ℕ) (lives : List Life) (puts : List CallPage) (run : OneRun D K) : Type 0 where
  pub life : Life
  pub kept : List CallPage
  pub is_life : IsLifeOf writes (told_of run) life kept
  pub left : (older newer : List ℕ) → MayLeaveBoth may_leave (spool_of run.after) older newer
      → HasWholePastOver writes line (life ∷ lives) (puts ++ kept) older newer

-- SUCH RUNS LEAD FROM FILES TO FILES, and so any number of them: in the line's past all was put and noted.
abbrev pub WholeRunsCross : {D K : Type 0} → (D → List ℕ)
    → (D → List ℕ → Type 0) → (D → Bool) → (K → List QueueValue) → (K → Spool D) → Type 0
WholeRunsCross {D} {K} seen may_leave is_usable queues_of spool_of =
    (writes : Writing) (line : List ℕ)
    (lives : List Life) (puts : List CallPage) (older newer one other : List ℕ) (run : OneRun D K)
    → IsWriting writes → HasWholePastOver writes line lives puts older newer
    → AreBoth older newer one other → IsOpened seen may_leave is_usable one other run.opened
    → WasRunWithOks seen may_leave is_usable queues_of spool_of line run
    → LeavesWholeOver may_leave spool_of writes line lives puts run

-- A RESTART OVER SUCH FILES FINDS WHAT IS OWED, AND NOTHING ELSE, whichever file it is handed first.
abbrev pub OpeningsFindWhatIsLeft : {D : Type 0}
    → (D → List ℕ) → (D → List ℕ → Type 0) → (D → Bool) → Type 0
OpeningsFindWhatIsLeft {D} seen may_leave is_usable =
    (writes : Writing) (line : List ℕ) (lives : List Life) (puts : List CallPage)
    (older newer one other : List ℕ) (opened : OpenedSpool D) (restored : RestoredLine)
    → HasWholePastOver writes line lives puts older newer → AreBoth older newer one other
    → IsOpened seen may_leave is_usable one other opened → Restores line opened.pages.items restored
    → FindsWhatIsLeft writes lives (map call_shown restored.calls.items)
