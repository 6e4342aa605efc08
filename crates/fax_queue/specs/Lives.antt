-- LIVES OF A LINE'S PAGES: what is on the disk after any history of pages put and not put, jobs ended, and crashes; and what the
-- line is restored with then. Lists have the oldest first, but those of actions and turns, which have the newest first. (This
-- project's profile.)
use Rattle.std.specs.Prelude.{◌≡◌, ◌≢◌, ℕ, ◌<◌, Bool, true, false, not, ◌||◌, List, [], ◌∷◌, ◌++◌, map, take, drop, count_by, slice_get, All, AllPairs, Option, Some, if◌then◌else◌}
use Rattle.std.specs.List.{filter, list_any}
use Rattle.fax_wires.specs.holding.Storing as hold
use Rattle.fax_wires.specs.holding.Storing.{went_out}
use Rattle.fax_pagestore.specs.Pages.{IsPage, PageValue}
use Rattle.fax_gateway.specs.Restored.{call_shown}
use Rattle.fax_gateway.specs.declared.given.Kept.{Kept}
use Rattle.fax_line.specs.Settling.{IsStoredAs}
use Rattle.fax_line.specs.declared.settling.PageToStore.{PageToStore}
use Rattle.fax_spool.specs.RecordOctets as spool
use Rattle.fax_spool.specs.Opened.{closed, closing, same_call}
use Rattle.fax_spool.specs.Waits.{name_of, without}
use Rattle.fax_spool.specs.declared.spool_record.SpoolRecord.TheVariants.{Page}
use Rattle.fax_queue.specs.declared.queue.QueuedPage.{QueuedPage}
use Rattle.fax_queue.specs.declared.restored.RestoredLine.{RestoredLine}
use Rattle.fax_queue.specs.Restorations.{AreRead, Means, ReadPage, Restores, calls_of, own_pages, waiting_of}
use Rattle.fax_queue.specs.Storing.{AllArePut, IsRecordOf, placed_as}
use Rattle.fax_queue.specs.Queues.{AreAmong, IsQueued, QueueValue, left_by}

-- WHAT BEFALLS A LINE and its pages. A turn gives a datagram on the calling leg or none.
pub data PageAction : Type 0 where
  -- a turn that confirms no page
  Turns : (given : Option (List ℕ)) → PageAction
  -- a call begins on the calling leg
  Begins : PageAction
  -- a turn confirms this page, which is put: the answer is Ok
  Stores : (given : Option (List ℕ)) → (page : ReadPage) → PageAction
  -- a turn confirms this page, and the answer is an Err: the page is on the disk, or it is not
  Refuses : (given : Option (List ℕ)) → (page : ReadPage) → (is_there : Bool) → PageAction
  -- The job that is first in turn ends, which has so many pages: its record is on the disk. The answer is Ok, or it is an Err.
  Ends : (pages : ℕ) → PageAction
  -- such a job ends, and there is no record of that on the disk
  Leaves : (pages : ℕ) → PageAction
  -- such a job ends, none of whose pages is on the disk
  Lets : (pages : ℕ) → PageAction
  -- another line's page is put, or the end of a job of another line, or a file is cleared or taken into use
  Beside : PageAction
  -- the machine stops, and another life begins
  Stops : PageAction

-- ---- what is owed

-- a page that a line confirmed, and whether it is on the disk
pub record Entry : Type 0 where
  pub page : ReadPage
  pub is_there : Bool

abbrev pub are_there : List Entry → List Entry
are_there entries = filter (λ e. e.is_there) entries

-- the pages of the jobs that have not ended, or of whose ends the disk has no record
abbrev pub queue_of : List PageAction → List Entry
queue_of [] = []
queue_of (Turns given ∷ actions) = queue_of actions
queue_of (Begins ∷ actions) = queue_of actions
queue_of (Stores given page ∷ actions) =
    queue_of actions ++ record { page = page; is_there = true } ∷ []
queue_of (Refuses given page is_there ∷ actions) =
    queue_of actions ++ record { page = page; is_there = is_there } ∷ []
queue_of (Ends pages ∷ actions) = drop pages (queue_of actions)
queue_of (Leaves pages ∷ actions) = queue_of actions
queue_of (Lets pages ∷ actions) = drop pages (queue_of actions)
queue_of (Beside ∷ actions) = queue_of actions
queue_of (Stops ∷ actions) = are_there (queue_of actions)

-- WHAT IS OWED: those of them that are on the disk.
abbrev pub owed : List PageAction → List ReadPage
owed actions = map (λ e. e.page) (are_there (queue_of actions))

-- As a life begins, the last page of each call closes its job.
abbrev pub closed_read : List ReadPage → List ReadPage
closed_read [] = []
closed_read (r ∷ read) = record {
  waits = closing (r.waits.closes || not (list_any
      (same_call r.waits) (map (λ s. s.waits) read))) r.waits;
  page = r.page;
} ∷ closed_read read

-- ---- what is known and what is there

-- The pages on the line's queue, whether the ends of its jobs are noted still, and the pages of all lines that wait on the disk.
-- They are not noted once the queue is not whole, and once a call of the disk has failed, until the next life.
pub record State : Type 0 where
  pub waits : List QueuedPage
  pub notes : Bool
  pub pages : List spool.PageValue

abbrev pub placed : ReadPage → Bool → QueuedPage
placed r is_stored = record {
  life = r.waits.life;
  call = r.waits.call;
  number = r.waits.number;
  is_stored = is_stored;
}

-- a page is put under the name of the line, and is on its queue
pub record Puts (line : List ℕ) (page : ReadPage) (is_there : Bool) (old new : State) : Type 0 where
  pub line_is : page.waits.line ≡ line
  pub means : Means page.waits page.page
  pub there : new.pages ≡ (if is_there then old.pages ++ page.waits ∷ [] else old.pages)
  pub queued : new.notes ≡ true
      → (old.notes ≡ true) × (new.waits ≡ old.waits ++ placed page is_there ∷ [])

-- the record of the end of a job is put, which leaves just the pages of the queue after the job's
pub record Notes (line : List ℕ) (pages : ℕ) (old new : State) : Type 0 where
  pub ended : spool.EndedValue
  pub named : ended.line ≡ line
  pub sure : old.notes ≡ true
  pub leaves : left_by ended line old.waits ≡ drop pages old.waits
  pub gone : new.pages ≡ without ended old.pages
  pub queued : new.notes ≡ true → new.waits ≡ drop pages old.waits

-- the pages of a job leave the queue, none of which is on the disk
pub record LeavesQueue (pages : ℕ) (old new : State) : Type 0 where
  pub sure : old.notes ≡ true
  pub none : count_by (λ page. page.is_stored) (take pages old.waits) ≡ 0
  pub same : new.pages ≡ old.pages
  pub queued : new.notes ≡ true → new.waits ≡ drop pages old.waits

-- nothing is done with the line's own pages
pub record LeavesIt (line : List ℕ) (old new : State) : Type 0 where
  pub same : own_pages line new.pages ≡ own_pages line old.pages
  pub queued : new.notes ≡ true → (old.notes ≡ true) × (new.waits ≡ old.waits)

-- the line is restored with its own pages that wait
pub record Restarts (line : List ℕ) (old new : State) : Type 0 where
  pub read : List ReadPage
  pub own : AreRead (own_pages line (closed old.pages)) read
  pub same : own_pages line new.pages ≡ own_pages line old.pages
  pub queued : new.waits ≡ map waiting_of read

abbrev pub Goes : List ℕ → PageAction → State → State → Type 0
Goes line (Turns given) old new = new ≡ old
Goes line Begins old new = new ≡ old
Goes line (Stores given page) old new = Puts line page true old new
Goes line (Refuses given page is_there) old new =
    Puts line page is_there old new × (is_there ≡ true → new.notes ≡ false)
Goes line (Ends pages) old new = Notes line pages old new
Goes line (Leaves pages) old new = (new.pages ≡ old.pages) × (new.notes ≡ false)
Goes line (Lets pages) old new = LeavesQueue pages old new
Goes line Beside old new = LeavesIt line old new
Goes line Stops old new = Restarts line old new

-- THESE ACTIONS WERE DONE, from where none of the line's pages was known or there.
abbrev pub WasDone : List ℕ → List PageAction → State → Type 0
WasDone line [] new = (new.waits ≡ []) × (own_pages line new.pages ≡ [])
WasDone line (action ∷ actions) new =
    (old : State) × WasDone line actions old × Goes line action old new

-- ---- laws

-- WHAT WAITS ON THE DISK IS WHAT IS OWED: of the line's own pages just these, in the order of their confirmations.
abbrev pub WaitsAreOwed : Type 0
WaitsAreOwed = (line : List ℕ) (actions : List PageAction) (state : State)
    → WasDone line actions state → own_pages line state.pages ≡ map (λ r. r.waits) (owed actions)

-- WHAT IS OWED IS RESTORED: after any actions a life begins with just these pages, in the calls that they came in.
abbrev pub OwedIsRestored : Type 0
OwedIsRestored =
    (line : List ℕ) (actions : List PageAction) (state : State) (restored : RestoredLine)
    → WasDone line actions state → Restores line (closed state.pages) restored
    → map call_shown restored.calls.items ≡ calls_of (closed_read (owed actions))

-- no job's end is on the disk, nor did one end none of whose pages is there
abbrev pub EndsNone : List PageAction → Type 0
EndsNone [] = Unit {0}
EndsNone (Turns given ∷ actions) = EndsNone actions
EndsNone (Begins ∷ actions) = EndsNone actions
EndsNone (Stores given page ∷ actions) = EndsNone actions
EndsNone (Refuses given page is_there ∷ actions) = EndsNone actions
EndsNone (Ends pages ∷ actions) = ⊥
EndsNone (Leaves pages ∷ actions) = EndsNone actions
EndsNone (Lets pages ∷ actions) = ⊥
EndsNone (Beside ∷ actions) = EndsNone actions
EndsNone (Stops ∷ actions) = EndsNone actions

-- Only the end of a job takes a page away: after other actions, crashes among them, each page that was owed is, and in front.
abbrev pub OwedStays : Type 0
OwedStays = (later actions : List PageAction)
    → EndsNone later → (more : List ReadPage) × (owed (later ++ actions) ≡ owed actions ++ more)

-- ---- the calling leg

-- what the wire of the line goes through
abbrev pub on_leg : List PageAction → List hold.LegAction
on_leg [] = []
on_leg (Turns given ∷ actions) = hold.Turn given false true ∷ on_leg actions
on_leg (Begins ∷ actions) = hold.Begins ∷ on_leg actions
on_leg (Stores given page ∷ actions) = hold.Turn given true true ∷ on_leg actions
on_leg (Refuses given page is_there ∷ actions) = hold.Turn given true false ∷ on_leg actions
on_leg (Ends pages ∷ actions) = on_leg actions
on_leg (Leaves pages ∷ actions) = on_leg actions
on_leg (Lets pages ∷ actions) = on_leg actions
on_leg (Beside ∷ actions) = on_leg actions
on_leg (Stops ∷ actions) = hold.Begins ∷ on_leg actions

-- NO MCF BEFORE THE DISK HAS THE PAGE: where something goes out in a turn that confirms a page, the page is owed.
abbrev pub PutFirst : Type 0
PutFirst = (given : Option (List ℕ)) (page : ReadPage) (is_there : Bool) (actions : List PageAction)
    → (went_out (on_leg (Refuses given page is_there ∷ actions)) ≡ went_out (on_leg actions))
    × (owed (Stores given page ∷ actions) ≡ owed actions ++ page ∷ [])

-- ---- the calls are actions

-- what is known and there of a line, by its queue
abbrev pub state_of : QueueValue → Bool → List spool.PageValue → State
state_of queue notes pages = record { waits = queue.waits; notes = notes; pages = pages }

-- ends are noted after a call only where they were, and the queue is whole
abbrev pub NotesStill : Bool → Bool → QueueValue → Type 0
NotesStill before after queue = after ≡ true → (before ≡ true) × (queue.is_whole ≡ true)

-- a page is put, and is on the queue: what `Storage::store_all` answers by an `Ok`, of each page (`SlotsArePuts`)
abbrev pub PutsAreActions : Type 0
PutsAreActions = (given : Option (List ℕ)) (page : ReadPage) (old new : QueueValue)
    (before after : Bool) (pages : List spool.PageValue) → page.waits.line ≡ old.line
    → Means page.waits page.page → IsQueued (placed_as page.waits true) old new
    → NotesStill before after new → Goes old.line (Stores given page)
    (state_of old before pages) (state_of new after (pages ++ page.waits ∷ []))

-- each is on its line's queue, by what that was before all of them and is after them
pub record IsPlacedOf (is_there : Bool)
    (page : PageToStore) (value : spool.PageValue) (olds news : List QueueValue) : Type 0 where
  pub old : QueueValue
  pub new : QueueValue
  pub was : slice_get olds page.line ≡ Some old
  pub is : slice_get news page.line ≡ Some new
  pub is_record : IsRecordOf page (Page value)
  pub line_is : value.line ≡ old.line
  pub queued : IsQueued (placed_as value is_there) old new

abbrev pub EachIsPlaced : Bool
    → List PageToStore → List spool.PageValue → List QueueValue → List QueueValue → Type 0
EachIsPlaced is_there [] [] olds news = Unit {0}
EachIsPlaced is_there (page ∷ pages) (value ∷ values) olds news =
    IsPlacedOf is_there page value olds news × EachIsPlaced is_there pages values olds news
EachIsPlaced is_there pages values olds news = ⊥

abbrev pub IsQueuedOf : PageToStore → spool.PageValue → List QueueValue → List QueueValue → Type 0
IsQueuedOf page value olds news = IsPlacedOf true page value olds news

abbrev pub EachIsQueued : List PageToStore
    → List spool.PageValue → List QueueValue → List QueueValue → Type 0
EachIsQueued pages values olds news = EachIsPlaced true pages values olds news

-- Pages of lines one each, as they are handed over (`ArePagesOf`): each is put as if it were alone, and no other queue changes.
abbrev pub SlotsArePuts : Type 0
SlotsArePuts =
    (pages : List PageToStore) (values : List spool.PageValue) (olds news : List QueueValue)
    → AllArePut pages values olds news
    → (AllPairs (λ page after. page.line < after.line) pages → EachIsQueued pages values olds news)
    × ((place : ℕ)
    → All (λ page. page.line ≢ place) pages → slice_get news place ≡ slice_get olds place)

-- the end of a job is noted: what `Storage::end` answers by an `Ok`
abbrev pub EndsAreActions : Type 0
EndsAreActions = (count : ℕ) (ended : spool.EndedValue) (old new : QueueValue) (after : Bool)
    (pages : List spool.PageValue) → ended.line ≡ old.line → new.waits ≡ drop count old.waits
    → left_by ended old.line old.waits ≡ new.waits → Goes old.line (Ends count)
    (state_of old true pages) (state_of new after (without ended pages))

-- the same of another line
abbrev pub OthersAreBeside : Type 0
OthersAreBeside = (line : List ℕ) (queue : QueueValue) (notes : Bool) (pages : List spool.PageValue)
    → ((page : spool.PageValue) → page.line ≢ line
    → Goes line Beside (state_of queue notes pages) (state_of queue notes (pages ++ page ∷ [])))
    × ((ended : spool.EndedValue) → ended.line ≢ line
    → Goes line Beside (state_of queue notes pages) (state_of queue notes (without ended pages)))

-- a life begins: what `restore_line` answers by an `Ok`, over the pages that `open_spool` tells
abbrev pub RestartsAreActions : Type 0
RestartsAreActions = (line : List ℕ) (restored : RestoredLine) (old : State) (after : Bool)
    → Restores line (closed old.pages) restored
    → Goes line Stops old (state_of restored.queue after old.pages)

-- A page that a turn hands over is read back: the text of its record means it.
abbrev pub StoredPagesAreRead : Type 0
StoredPagesAreRead =
    (kept : Kept) (page : PageValue) (to_store : PageToStore) (value : spool.PageValue)
    → IsPage page → kept.format ≡ page.format
    → IsStoredAs kept (Some page) to_store → IsRecordOf to_store (Page value) → Means value page

-- A line that is restored has no page on its queue but those that wait on the disk: so the queues and the disk agree as a life
-- begins.
abbrev pub RestoredQueuesAgree : Type 0
RestoredQueuesAgree = (line : List ℕ) (pages : List spool.PageValue) (restored : RestoredLine)
    → Restores line (closed pages) restored
    → AreAmong restored.queue.line restored.queue.waits (map name_of pages)
