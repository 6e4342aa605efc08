-- WHAT A RUN LEAVES OF A LINE, whatever crash follows: actions of the line that are those of the lives of its gateway, with one life
-- more. So what is told of actions and lives is told of each line of a server that keeps its pages. Lists have the oldest first, but
-- those of actions, lives, events and orders, which have the newest first. (This project's profile.)
use Rattle.std.specs.Prelude.{◌≡◌, ◌≢◌, ◌⊎◌, ℕ, Bool, List, [], ◌∷◌, ◌++◌, length, map, Some, slice_get}
use Rattle.fax_runcodes.specs.declared.format.Coding.TheVariants as codings
use Rattle.fax_pagestore.specs.PageTexts.{MeansPage}
use Rattle.fax_call.specs.Writings.{IsWriting, Writing}
use Rattle.fax_gateway.specs.Restored.{CallPage, call_shown}
use Rattle.fax_gateway.specs.Setups.{AreSetWith, Setup}
use Rattle.fax_gateway.specs.Events.{Event}
use Rattle.fax_gateway.specs.Reached.{IsReachedBy}
use Rattle.fax_gateway.specs.Lives.{Life}
use Rattle.fax_wires.specs.holding.Storing as hold
use Rattle.fax_wires.specs.holding.Storing.{HasDone}
use Rattle.fax_line.specs.Actions.{BeginsWith}
use Rattle.fax_line.specs.Places.{PlaceValue}
use Rattle.fax_line.specs.Runs.{DoneOrder}
use Rattle.fax_line.specs.StoredRuns.{IsRun, stored_pages}
use Rattle.fax_line.specs.declared.settling.LineReport.{LineReport}
use Rattle.fax_line.specs.declared.settling.PageToStore.{PageToStore}
use Rattle.fax_line.specs.declared.settling.PutResult.{PutResult}
use Rattle.fax_spool.specs.RecordOctets as spool
use Rattle.fax_spool.specs.Calls.{TellWaits, Rests}
use Rattle.fax_spool.specs.Opened.{AreBoth, IsOpened, closed}
use Rattle.fax_spool.specs.declared.opening.OpenedSpool.{OpenedSpool}
use Rattle.fax_spool.specs.declared.spool.Spool.{Spool}
use Rattle.fax_queue.specs.Queues.{QueueValue}
use Rattle.fax_queue.specs.Restorations.{Restores}
use Rattle.fax_queue.specs.declared.restored.RestoredLine.{RestoredLine}
use Rattle.fax_queue.specs.Jobs.{WaitSo}
use Rattle.fax_queue.specs.Lives.{PageAction, State, WasDone}
use Rattle.fax_queue.specs.SpoolStorage.{EndsJobs, IsUnchanged, NotesPage, PutsPages}
use Rattle.fax_queue.specs.Book.{AreOfLives, pages_put}
use Rattle.fax_queue.specs.OnLeg.{AreOnLeg}

-- THE PAST OF A LINE, where these pages wait on the disk: actions that were done, which are those of these lives of its gateway, and by
-- which so many pages were put with an `Ok`.
pub record HasPast (writes : Writing) (line : List ℕ)
    (lives : List Life) (puts : List CallPage) (pages : List spool.PageValue) : Type 0 where
  pub actions : List PageAction
  pub state : State
  pub done : WasDone line actions state
  pub there : state.pages ≡ pages
  pub are : AreOfLives writes actions lives
  pub put : pages_put actions ≡ puts

-- these pages wait in the spool that was opened, and were told
pub record WasOpened {D : Type 0} (seen : D → List ℕ) (may_leave : D → List ℕ → Type 0)
    (is_usable : D → Bool) (opened : OpenedSpool D) (pages : List spool.PageValue) : Type 0 where
  pub wait : Rests seen may_leave is_usable opened.spool pages
  pub told : opened.pages.items ≡ closed pages

-- AN OPENING FINDS WHAT WAITS by the records of both files, whichever of them it is handed first.
abbrev pub OpeningsFindWhatWaits : {D : Type 0}
    → (D → List ℕ) → (D → List ℕ → Type 0) → (D → Bool) → Type 0
OpeningsFindWhatWaits {D} seen may_leave is_usable =
    (older newer one other : List ℕ) (pages : List spool.PageValue) (opened : OpenedSpool D)
    → TellWaits older newer pages
    → AreBoth older newer one other → IsOpened seen may_leave is_usable one other opened
    → WasOpened seen may_leave is_usable opened pages

-- the page, and the call that it came in, which its text means
abbrev pub IsStoredPage : PageToStore → CallPage → Type 0
IsStoredPage to_store p =
    (p.call ≡ to_store.kept.call) × MeansPage to_store.kept.format codings.Mr to_store.text p.page

-- of these pages, those of the line of this number, in their order
abbrev pub AreStoredOf : ℕ → List PageToStore → List CallPage → Type 0
AreStoredOf number [] puts = puts ≡ []
AreStoredOf number (page ∷ pages) [] = (page.line ≢ number) × AreStoredOf number pages []
AreStoredOf number (page ∷ pages) (p ∷ puts) =
    ((page.line ≡ number) × IsStoredPage page p × AreStoredOf number pages puts)
    ⊎ ((page.line ≢ number) × AreStoredOf number pages (p ∷ puts))

-- A LINE OF A RUN BEGINS where these pages wait on the disk: it is restored with those of its own, and so is its queue. Its wire holds
-- nothing back. No other line has its name.
pub record BeginsRun {D : Type 0} (seen : D → List ℕ) (may_leave : D → List ℕ → Type 0)
    (is_usable : D → Bool) (number : ℕ) (line : List ℕ) (pages : List spool.PageValue)
    (setup : Setup) (lines : List PlaceValue) (queues : List QueueValue) (spool : Spool D) :
    Type 0 where
  pub waits : Rests seen may_leave is_usable spool pages
  pub restored : RestoredLine
  pub restores : Restores line (closed pages) restored
  pub place : PlaceValue
  pub there : slice_get lines number ≡ Some place
  pub begins : BeginsWith (map call_shown restored.calls.items) place.line
  pub fresh : HasDone [] place.line.holding
  pub set : AreSetWith setup place.line.gateway.settings (map call_shown restored.calls.items)
  pub queued : slice_get queues number ≡ Some restored.queue
  pub as_many : length queues ≡ length lines
  pub alone : (other : ℕ) (queue : QueueValue)
      → slice_get queues other ≡ Some queue → other ≢ number → queue.line ≢ line

-- A RUN LEAVES IT SO: a trace led to its gateway; and whatever crash follows, pages wait on the disk after which that trace is one
-- life more of the line's past, and the pages of the line that the run put with an `Ok` are those that were put in it. What the line's
-- wire let out on the calling leg is what the ticks of that trace gave, but where a page was not put with an `Ok`, and then nothing
-- until the next call (`AreOnLeg`, `HasDone`).
pub record LeavesRun {D : Type 0} (seen : D → List ℕ)
    (may_leave : D → List ℕ → Type 0) (is_usable : D → Bool) (writes : Writing)
    (number : ℕ) (line : List ℕ) (lives : List Life) (puts : List CallPage) (setup : Setup)
    (settled : List PutResult) (lines : List PlaceValue) (spool : Spool D) : Type 0 where
  pub place : PlaceValue
  pub there : slice_get lines number ≡ Some place
  pub trace : List Event
  pub reached : IsReachedBy setup writes trace place.line.gateway
  pub kept : List CallPage
  pub are_stored : AreStoredOf number (stored_pages settled) kept
  pub leg : List hold.LegAction
  pub did : HasDone leg place.line.holding
  pub on_leg : AreOnLeg setup leg trace kept
  pub past : WaitSo seen may_leave is_usable spool (HasPast writes line (record {
    setup = setup;
    trace = trace;
  } ∷ lives) (puts ++ kept))

-- a run whose pages are stored in a spool, by what has these queues and this spool
abbrev pub RanOnDisk : {D K : Type 0}
    → (D → List ℕ) → (D → List ℕ → Type 0) → (D → Bool) → (K → List QueueValue) → (K → Spool D)
    → List DoneOrder → List PutResult → List PlaceValue → List PlaceValue → K → K → Type 0
RanOnDisk {D} {K} seen may_leave is_usable queues_of spool_of = IsRun
    (λ (old new : K). IsUnchanged (queues_of old) (queues_of new) (spool_of old) (spool_of new))
    (λ (pages : List PageToStore) (is_stored : Bool) (old new : K).
    PutsPages seen may_leave is_usable pages is_stored (queues_of old)
    (queues_of new) (spool_of old) (spool_of new)) (λ (line call : ℕ) (old new : K).
    NotesPage line call (queues_of old) (queues_of new) (spool_of old) (spool_of new))
    (λ (ended : List LineReport) (old new : K). EndsJobs seen
    may_leave is_usable ended (queues_of old) (queues_of new) (spool_of old) (spool_of new))

-- EACH RUN MAKES HISTORY: of each line that has a past where the spool was opened, it leaves one with one life more, whatever came
-- over the wires, whatever was ordered, whichever puts failed, and wherever it stops. So this is so over any number of lives.
abbrev pub RunsMakeHistory : {D K : Type 0} → (D → List ℕ)
    → (D → List ℕ → Type 0) → (D → Bool) → (K → List QueueValue) → (K → Spool D) → Type 0
RunsMakeHistory {D} {K} seen may_leave is_usable queues_of spool_of =
    (writes : Writing) (number : ℕ) (line : List ℕ) (pages : List spool.PageValue)
    (lives : List Life) (puts : List CallPage) (setup : Setup) (done : List DoneOrder)
    (settled : List PutResult) (begun left : List PlaceValue) (before after : K)
    → IsWriting writes → HasPast writes line lives puts pages
    → BeginsRun seen may_leave is_usable number line pages setup begun (queues_of before)
    (spool_of before) → RanOnDisk seen may_leave
    is_usable queues_of spool_of done settled begun left before after → LeavesRun seen
    may_leave is_usable writes number line lives puts setup settled left (spool_of after)
