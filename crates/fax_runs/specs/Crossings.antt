-- RUNS OF A SERVER, one after another, joined by what their files hold. Lists of runs have the newest first. (This project's profile.)
use Rattle.std.specs.Prelude.{◌≡◌, ℕ, Bool, List, ◌++◌, map, Some, slice_get}
use Rattle.std.specs.String.{string_bytes}
use Rattle.fax_config.specs.declared.config.LineConfig.{LineConfig}
use Rattle.fax_config.specs.Configurations.{AreUnlike, names_of_lines}
use Rattle.fax_call.specs.Writings.{IsWriting, Writing}
use Rattle.fax_gateway.specs.Restored.{CallPage, call_shown}
use Rattle.fax_gateway.specs.Setups.{AreSetWith, Setup}
use Rattle.fax_gateway.specs.Lives.{Life}
use Rattle.fax_line.specs.Places.{PlaceValue}
use Rattle.fax_line.specs.Runs.{DoneOrder}
use Rattle.fax_line.specs.declared.settling.LineReport.{LineReport}
use Rattle.fax_line.specs.declared.settling.PageToStore.{PageToStore}
use Rattle.fax_spool.specs.Opened.{AreBoth, IsOpened}
use Rattle.fax_spool.specs.Spools.{AreClean, MayLeaveBoth, files_of}
use Rattle.fax_spool.specs.declared.spool.Spool.{Spool}
use Rattle.fax_queue.specs.Restorations.{NoneIsTorn, Restores}
use Rattle.fax_queue.specs.Queues.{QueueValue}
use Rattle.fax_queue.specs.declared.restored.RestoredLine.{RestoredLine}
use Rattle.fax_runs.specs.restarts.Runs.{OneRun, told_of}
use Rattle.fax_runs.specs.restarts.Crossings.{AreJoined, GoesOn, HasPastOver, HeldFiles, Leads, LeavesOver, Step}
use Rattle.fax_runs.specs.restarts.Kills.{IsCut}
use Rattle.fax_runs.specs.StoredRuns.{ServedStored}

-- A server ran, which had a line of this name and no other of it: at its place among the others, its gateway set up with the calls of
-- its own pages, none of which lacked one.
pub record ServedLine {D K : Type 0} (seen : D → List ℕ) (may_leave : D → List ℕ → Type 0)
    (is_usable : D → Bool) (queues_of : K → List QueueValue) (spool_of : K → Spool D)
    (same : K → K → Type 0) (stores : List PageToStore → Bool → K → K → Type 0)
    (notes : ℕ → ℕ → K → K → Type 0) (ends : List LineReport → K → K → Type 0) (line : List ℕ) :
    Type 0 where
  pub configs : List LineConfig
  pub served : ServedStored same stores notes ends spool_of queues_of configs
  pub unlike : AreUnlike (names_of_lines configs)
  pub number : ℕ
  pub config : LineConfig
  pub at : slice_get configs number ≡ Some config
  pub named : string_bytes config.name ≡ line
  pub place : PlaceValue
  pub there : slice_get served.begun number ≡ Some place
  pub whole : NoneIsTorn line served.opened.torn.items served.opened.pages.items
  pub setup : Setup
  pub set : (restored : RestoredLine) → Restores line served.opened.pages.items restored
      → AreSetWith setup place.line.gateway.settings (map call_shown restored.calls.items)

-- what there was of that run for the line
abbrev pub run_of : {D K : Type 0} {seen : D → List ℕ} {may_leave : D → List ℕ → Type 0}
    {is_usable : D → Bool} {queues_of : K → List QueueValue} {spool_of : K → Spool D}
    {same : K → K → Type 0} {stores : List PageToStore → Bool → K → K → Type 0}
    {notes : ℕ → ℕ → K → K → Type 0} {ends : List LineReport → K → K → Type 0} {line : List ℕ}
    → ServedLine seen may_leave is_usable queues_of spool_of same stores notes ends line
    → OneRun D K
run_of ran = record {
  opened = ran.served.opened;
  number = ran.number;
  setup = ran.setup;
  done = ran.served.run.done;
  settled = ran.served.run.settled;
  begun = ran.served.begun;
  left = ran.served.run.left;
  before = ran.served.store;
  after = ran.served.run.after;
}

-- its spool was opened over two files that held this, whichever of them was handed in first, and no wrong answer was taken as true.
-- (`over` is what `run_serve` promises of its start, at `S.db` and `S.log`.)
pub record IsServedOver {D K : Type 0} (seen : D → List ℕ)
    (may_leave : D → List ℕ → Type 0) (is_usable is_clean : D → Bool)
    (queues_of : K → List QueueValue) (spool_of : K → Spool D) (same : K → K → Type 0)
    (stores : List PageToStore → Bool → K → K → Type 0) (notes : ℕ → ℕ → K → K → Type 0)
    (ends : List LineReport → K → K → Type 0) (line older newer : List ℕ)
    (ran : ServedLine seen may_leave is_usable queues_of spool_of same stores notes ends line) :
    Type 0 where
  pub one : List ℕ
  pub other : List ℕ
  pub both : AreBoth older newer one other
  pub over : AreClean is_clean (files_of ran.served.opened.spool)
      → IsOpened seen may_leave is_usable one other ran.served.opened
  pub clean : AreClean is_clean (files_of ran.served.opened.spool)

-- A SERVER'S RUN LEADS FROM FILES TO FILES: of each of its lines that has a past over what they held, it leaves one with one life more
-- over whatever a crash leaves of them.
abbrev pub ServersCross : {D K : Type 0}
    → (D → List ℕ) → (D → List ℕ → Type 0) → (D → Bool) → (D → Bool) → (K → List QueueValue)
    → (K → Spool D) → (K → K → Type 0) → (List PageToStore → Bool → K → K → Type 0)
    → (ℕ → ℕ → K → K → Type 0) → (List LineReport → K → K → Type 0) → Type 0
ServersCross {D} {K} seen may_leave is_usable is_clean queues_of spool_of same stores notes ends =
    (writes : Writing)
    (line : List ℕ) (lives : List Life) (puts : List CallPage) (older newer : List ℕ)
    (ran : ServedLine seen may_leave is_usable queues_of spool_of same stores notes ends line)
    → IsWriting writes → HasPastOver writes line lives puts older newer
    → IsServedOver seen may_leave is_usable is_clean queues_of spool_of same stores notes
    ends line older newer ran → LeavesOver may_leave spool_of writes line lives puts (run_of ran)

-- AT ALL TIMES, and not where it returns alone: after whichever of its orders the process is killed, what it had done so far leaves of
-- each such line a past with one life more over whatever the crash leaves of the files.
abbrev pub KilledServersCross : {D K : Type 0}
    → (D → List ℕ) → (D → List ℕ → Type 0) → (D → Bool) → (D → Bool) → (K → List QueueValue)
    → (K → Spool D) → (K → K → Type 0) → (List PageToStore → Bool → K → K → Type 0)
    → (ℕ → ℕ → K → K → Type 0) → (List LineReport → K → K → Type 0) → Type 0
KilledServersCross {D} {K}
    seen may_leave is_usable is_clean queues_of spool_of same stores notes ends = (writes : Writing)
    (line : List ℕ) (lives : List Life) (puts : List CallPage) (older newer : List ℕ)
    (ran : ServedLine seen may_leave is_usable queues_of spool_of same stores notes ends line)
    (later earlier : List DoneOrder)
    → IsWriting writes → HasPastOver writes line lives puts older newer
    → IsServedOver seen may_leave is_usable is_clean queues_of spool_of same stores
    notes ends line older newer ran → (run_of ran).done ≡ later ++ earlier → (cut : OneRun D K)
    × IsCut (run_of ran) earlier cut × LeavesOver may_leave spool_of writes line lives puts cut

-- so it may be any of the runs that are joined, by what its files held and what a crash left of them
abbrev pub ServersLead : {D K : Type 0}
    → (D → List ℕ) → (D → List ℕ → Type 0) → (D → Bool) → (D → Bool) → (K → List QueueValue)
    → (K → Spool D) → (K → K → Type 0) → (List PageToStore → Bool → K → K → Type 0)
    → (ℕ → ℕ → K → K → Type 0) → (List LineReport → K → K → Type 0) → Type 0
ServersLead {D} {K} seen may_leave is_usable is_clean queues_of spool_of same stores notes ends =
    (writes : Writing) (line : List ℕ) (before after : HeldFiles)
    (ran : ServedLine seen may_leave is_usable queues_of spool_of same stores notes ends line)
    → IsWriting writes → IsServedOver seen may_leave
    is_usable is_clean queues_of spool_of same stores notes ends line before.older before.newer ran
    → MayLeaveBoth may_leave (spool_of (run_of ran).after) after.older after.newer
    → Leads writes line (told_of (run_of ran)) before after

-- A SERVER GOES ON: after any number of runs and crashes a run over what they left is one life more of the gateway of each of its lines.
-- From run to run there may be other lines beside it, in any order.
abbrev pub ServersRunOn : {D K : Type 0}
    → (D → List ℕ) → (D → List ℕ → Type 0) → (D → Bool) → (D → Bool) → (K → List QueueValue)
    → (K → Spool D) → (K → K → Type 0) → (List PageToStore → Bool → K → K → Type 0)
    → (ℕ → ℕ → K → K → Type 0) → (List LineReport → K → K → Type 0) → Type 0
ServersRunOn {D} {K} seen may_leave is_usable is_clean queues_of spool_of same stores notes ends =
    (writes : Writing) (line : List ℕ) (steps : List Step) (last : HeldFiles)
    (ran : ServedLine seen may_leave is_usable queues_of spool_of same stores notes ends line)
    → IsWriting writes → AreJoined writes line steps last
    → IsServedOver seen may_leave is_usable is_clean queues_of spool_of same stores notes ends
    line last.older last.newer ran → GoesOn may_leave spool_of writes line steps last (run_of ran)
