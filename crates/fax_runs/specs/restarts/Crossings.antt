-- RUNS OVER FILES, one after another. What joins a run with the next one is what its files hold, and nothing else: so each may be over
-- files of a type of its own, as `FileFrom<S>` is. Lists of runs and lives have the newest first. (This project's profile.)
use Rattle.std.specs.Prelude.{◌≡◌, ℕ, Bool, List, [], ◌∷◌, ◌++◌}
use Rattle.fax_call.specs.Writings.{IsWriting, Writing}
use Rattle.fax_gateway.specs.Restored.{CallPage}
use Rattle.fax_gateway.specs.Lives.{Life}
use Rattle.fax_spool.specs.RecordOctets as spool
use Rattle.fax_spool.specs.Calls.{TellWaits}
use Rattle.fax_spool.specs.Opened.{AreBoth, IsOpened}
use Rattle.fax_spool.specs.Spools.{MayLeaveBoth, Tells}
use Rattle.fax_spool.specs.Stopped.{StopOpening}
use Rattle.fax_spool.specs.declared.spool.Spool.{Spool}
use Rattle.fax_queue.specs.Queues.{QueueValue}
use Rattle.fax_queue.specs.Histories.{HasPast}
use Rattle.fax_runs.specs.restarts.Runs.{IsLifeOf, OneRun, RunTold, WasRun, told_of}

-- A LINE HAS THIS PAST OVER TWO FILES: they tell pages that wait, after which it has these lives, in which these pages were put.
pub record HasPastOver (writes : Writing)
    (line : List ℕ) (lives : List Life) (puts : List CallPage) (older newer : List ℕ) : Type 0 where
  pub pages : List spool.PageValue
  pub tell : TellWaits older newer pages
  pub past : HasPast writes line lives puts pages

-- OVER NEW FILES nothing was done. (Those of a folder that was made hold no octet, and so they tell nothing.)
abbrev pub NewFilesHaveNoPast : Type 0
NewFilesHaveNoPast = (writes : Writing) (line older newer : List ℕ)
    → Tells older [] → Tells newer [] → HasPastOver writes line [] [] older newer

-- OPENINGS THAT STOP leave it, however many of them.
abbrev pub StoppedOpeningsLeaveThePast : Type 0
StoppedOpeningsLeaveThePast = (writes : Writing) (line : List ℕ) (lives : List Life)
    (puts : List CallPage) (times : ℕ) (older newer last_older last_newer : List ℕ)
    → HasPastOver writes line lives puts older newer
    → StopOpening times older newer last_older last_newer
    → HasPastOver writes line lives puts last_older last_newer

-- what a run was to a line that had this past as it began: one life more, whatever a crash leaves of its files
pub record LeavesOver {D K : Type 0} (may_leave : D → List ℕ → Type 0)
    (spool_of : K → Spool D) (writes : Writing)
    (line : List ℕ) (lives : List Life) (puts : List CallPage) (run : OneRun D K) : Type 0 where
  pub life : Life
  pub kept : List CallPage
  pub is_life : IsLifeOf writes (told_of run) life kept
  pub left : (older newer : List ℕ) → MayLeaveBoth may_leave (spool_of run.after) older newer
      → HasPastOver writes line (life ∷ lives) (puts ++ kept) older newer

-- A RUN LEADS FROM FILES TO FILES: over these two its spool was opened, whichever of them was handed in first.
abbrev pub RunsCross : {D K : Type 0} → (D → List ℕ)
    → (D → List ℕ → Type 0) → (D → Bool) → (K → List QueueValue) → (K → Spool D) → Type 0
RunsCross {D} {K} seen may_leave is_usable queues_of spool_of = (writes : Writing) (line : List ℕ)
    (lives : List Life) (puts : List CallPage) (older newer one other : List ℕ) (run : OneRun D K)
    → IsWriting writes → HasPastOver writes line lives puts older newer
    → AreBoth older newer one other → IsOpened seen may_leave is_usable one other run.opened
    → WasRun seen may_leave is_usable queues_of spool_of line run
    → LeavesOver may_leave spool_of writes line lives puts run

-- ---- any number of runs

-- what two files held
pub record HeldFiles : Type 0 where
  pub older : List ℕ
  pub newer : List ℕ

-- what a run's files held before it, and what there was of it
pub record Step : Type 0 where
  pub held : HeldFiles
  pub run : RunTold

-- WHATEVER PAST A LINE HAD over the first two files, it has one life more over the others, which is that run.
abbrev pub Leads : Writing → List ℕ → RunTold → HeldFiles → HeldFiles → Type 0
Leads writes line run before after = (lives : List Life) (puts : List CallPage)
    → HasPastOver writes line lives puts before.older before.newer
    → (life : Life) × (kept : List CallPage) × IsLifeOf writes run life kept
    × HasPastOver writes line (life ∷ lives) (puts ++ kept) after.older after.newer

-- EACH RUN LEADS from what its files held to whatever a crash leaves of them.
abbrev pub RunsLead : {D K : Type 0} → (D → List ℕ)
    → (D → List ℕ → Type 0) → (D → Bool) → (K → List QueueValue) → (K → Spool D) → Type 0
RunsLead {D} {K} seen may_leave is_usable queues_of spool_of = (writes : Writing)
    (line : List ℕ) (before after : HeldFiles) (one other : List ℕ) (run : OneRun D K)
    → IsWriting writes → AreBoth before.older before.newer one other
    → IsOpened seen may_leave is_usable one other run.opened
    → WasRun seen may_leave is_usable queues_of spool_of line run
    → MayLeaveBoth may_leave (spool_of run.after) after.older after.newer
    → Leads writes line (told_of run) before after

-- Each of these runs led from what was held before it to what was left after it; before the next one openings may have stopped. The
-- first was over files that told nothing.
abbrev pub AreJoined : Writing → List ℕ → List Step → HeldFiles → Type 0
AreJoined writes line [] last = (new : HeldFiles) × (times : ℕ) × Tells new.older []
    × Tells new.newer [] × StopOpening times new.older new.newer last.older last.newer
AreJoined writes line (step ∷ earlier) last =
    (left : HeldFiles) × (times : ℕ) × Leads writes line step.run step.held left
    × StopOpening times left.older left.newer last.older last.newer
    × AreJoined writes line earlier step.held

-- each run is one life, and these are the pages that all of them put with an `Ok`, in their order
abbrev pub AreLivesOf : Writing → List Step → List Life → List CallPage → Type 0
AreLivesOf writes [] [] puts = puts ≡ []
AreLivesOf writes [] (life ∷ lives) puts = ⊥
AreLivesOf writes (step ∷ steps) [] puts = ⊥
AreLivesOf writes (step ∷ steps) (life ∷ lives) puts =
    (earlier : List CallPage) × (kept : List CallPage) × IsLifeOf writes step.run life kept
    × AreLivesOf writes steps lives earlier × (puts ≡ earlier ++ kept)

-- over these files a line has a life for each of these runs, and no other
pub record HasLives (writes : Writing) (line : List ℕ) (steps : List Step) (last : HeldFiles) :
    Type 0 where
  pub lives : List Life
  pub puts : List CallPage
  pub are : AreLivesOf writes steps lives puts
  pub past : HasPastOver writes line lives puts last.older last.newer

-- RUNS JOIN, each over files of a type of its own: the line has a past with one life for each of them, and it is the run's.
abbrev pub RunsJoin : Type 0
RunsJoin = (writes : Writing) (line : List ℕ) (steps : List Step) (last : HeldFiles)
    → AreJoined writes line steps last → HasLives writes line steps last

-- the lives of a line that these runs were; and after them this run is one more, whatever a crash leaves of its files
pub record GoesOn {D K : Type 0} (may_leave : D → List ℕ → Type 0) (spool_of : K → Spool D)
    (writes : Writing) (line : List ℕ) (steps : List Step) (last : HeldFiles) (run : OneRun D K) :
    Type 0 where
  pub after : HasLives writes line steps last
  pub leaves : LeavesOver may_leave spool_of writes line after.lives after.puts run

-- RUNS GO ON: after any number of runs and crashes a run whose spool was opened over what they left is one life more of the line's gateway.
abbrev pub RunsGoOn : {D K : Type 0} → (D → List ℕ)
    → (D → List ℕ → Type 0) → (D → Bool) → (K → List QueueValue) → (K → Spool D) → Type 0
RunsGoOn {D} {K} seen may_leave is_usable queues_of spool_of = (writes : Writing)
    (line : List ℕ) (steps : List Step) (last : HeldFiles) (one other : List ℕ) (run : OneRun D K)
    → IsWriting writes → AreJoined writes line steps last → AreBoth last.older last.newer one other
    → IsOpened seen may_leave is_usable one other run.opened
    → WasRun seen may_leave is_usable queues_of spool_of line run
    → GoesOn may_leave spool_of writes line steps last run
