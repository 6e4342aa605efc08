-- WHAT IS OWED IS WHAT THE GATEWAY'S BOOK HAD LEFT: the actions of a line beside the lives of its gateway. Lists have the oldest
-- first, but those of actions, events, lives and entries, which have the newest first. (This project's profile.)
use Rattle.std.specs.Prelude.{◌≡◌, ℕ, Bool, true, false, List, [], ◌∷◌, ◌++◌, length, map, take, Option, Some, None}
use Rattle.fax_jobs.specs.declared.report.Report.{Report}
use Rattle.fax_jobs.specs.Jobs.{JobValue}
use Rattle.fax_answer.specs.Replies.{ConfirmedPage}
use Rattle.fax_call.specs.Writings.{Writing}
use Rattle.fax_gateway.specs.Restored.{CallPage, RestoredCall}
use Rattle.fax_gateway.specs.Setups.{Setup}
use Rattle.fax_gateway.specs.Events.{Event, Ring, FromCalling, FromCalled, Tick, Placed, clock}
use Rattle.fax_gateway.specs.CallingLegs.{CallingLeg, calling_leg}
use Rattle.fax_gateway.specs.Cuts.{confirmed_at}
use Rattle.fax_gateway.specs.BothLegs.{book_of, both_legs, past_of}
use Rattle.fax_gateway.specs.Traces.{IsTrace}
use Rattle.fax_gateway.specs.Lives.{AreLives, AreSomeOf, AreStored, Life, all_confirmed, all_ended, pages_left, pages_left_in, pages_of_jobs}
use Rattle.fax_queue.specs.Restorations.{ReadPage, calls_of}
use Rattle.fax_queue.specs.Lives.{PageAction, State, WasDone, closed_read, owed, queue_of}
use Rattle.fax_queue.specs.Lives.{Turns, Begins, Stores, Refuses, Ends, Leaves, Lets, Beside, Stops}

-- ---- the actions of a line are those of the lives of its gateway

-- WHAT IS TOLD OF A LINE'S PAGES
pub data BookEntry : Type 0 where
  -- a page was confirmed, in a turn that gives this datagram on the calling leg, or none
  Confirms : (given : Option (List ℕ)) → (page : CallPage) → (closes : Bool) → BookEntry
  -- the job that was first in turn ended, which had so many pages
  Reports : (pages : ℕ) → BookEntry
  -- a life began with these calls
  Restores : (calls : List RestoredCall) → BookEntry

-- a page, and the call that it came in
abbrev pub page_of : ReadPage → CallPage
page_of r = record { call = r.waits.call; page = r.page }

-- by the actions: what was done with a page, with the end of a job, and with the pages of all lives before
abbrev pub told_by : List PageAction → List BookEntry
told_by [] = []
told_by (Turns given ∷ actions) = told_by actions
told_by (Begins ∷ actions) = told_by actions
told_by (Stores given page ∷ actions) =
    Confirms given (page_of page) page.waits.closes ∷ told_by actions
told_by (Refuses given page is_there ∷ actions) =
    Confirms given (page_of page) page.waits.closes ∷ told_by actions
told_by (Ends pages ∷ actions) = Reports pages ∷ told_by actions
told_by (Leaves pages ∷ actions) = Reports pages ∷ told_by actions
told_by (Lets pages ∷ actions) = Reports pages ∷ told_by actions
told_by (Beside ∷ actions) = told_by actions
told_by (Stops ∷ actions) = Restores (calls_of (closed_read (owed actions))) ∷ told_by actions

-- by the gateway: what a tick confirms on the calling leg, and then what it reports
abbrev pub confirms : Option (List ℕ) → ℕ → Option ConfirmedPage → List BookEntry → List BookEntry
confirms given number None before = before
confirms given number (Some c) before =
    Confirms given (record { call = number; page = c.page }) c.closes ∷ before

abbrev pub confirms_on : Option CallingLeg → ℕ → Option (List ℕ) → List BookEntry → List BookEntry
confirms_on None now given before = before
confirms_on (Some l) now given before = confirms given l.number (confirmed_at (Some l) now) before

abbrev pub reports : Option Report → List BookEntry → List BookEntry
reports None before = before
reports (Some report) before = Reports report.pages ∷ before

-- a life begins with what it is restored with, and goes on tick by tick
abbrev pub told_in : Setup → List Event → List BookEntry → List BookEntry
told_in setup [] before = Restores setup.restored ∷ before
told_in setup (Ring at number ∷ earlier) before = told_in setup earlier before
told_in setup (FromCalling octets at decided read ∷ earlier) before = told_in setup earlier before
told_in setup (FromCalled octets at decided ∷ earlier) before = told_in setup earlier before
told_in setup (Tick at given ∷ earlier) before =
    reports given.report (confirms_on (calling_leg setup earlier)
    (clock (Tick at given ∷ earlier)) given.on_calling (told_in setup earlier before))
told_in setup (Placed at connected ∷ earlier) before = told_in setup earlier before

abbrev pub told_over : List Life → List BookEntry
told_over [] = []
told_over (life ∷ earlier) = told_in life.setup life.trace (told_over earlier)

abbrev pub AreTraces : Writing → List Life → Type 0
AreTraces writes [] = Unit {0}
AreTraces writes (life ∷ earlier) = IsTrace life.setup writes life.trace × AreTraces writes earlier

-- THE ACTIONS ARE THOSE OF THESE LIVES: both tell the same. So each page that a tick confirms is put or refused, each job that is
-- reported ends with as many pages, and each life begins with what is owed.
pub record AreOfLives (writes : Writing) (actions : List PageAction) (lives : List Life) :
    Type 0 where
  pub traces : AreTraces writes lives
  pub same : told_by actions ≡ told_over lives

-- ---- laws

-- THE LIVES OF A SERVER ARE LIVES OF A GATEWAY, whatever was put and noted: each begins with some of the pages that the one before
-- it had, in their order.
abbrev pub ServersAreLives : Type 0
ServersAreLives = (writes : Writing) (actions : List PageAction) (lives : List Life)
    → AreOfLives writes actions lives → AreLives writes lives

-- each page that was confirmed is on the disk, and so is the end of each job, whatever was answered
abbrev pub AllIsPut : List PageAction → Type 0
AllIsPut [] = Unit {0}
AllIsPut (Turns given ∷ actions) = AllIsPut actions
AllIsPut (Begins ∷ actions) = AllIsPut actions
AllIsPut (Stores given page ∷ actions) = AllIsPut actions
AllIsPut (Refuses given page is_there ∷ actions) = (is_there ≡ true) × AllIsPut actions
AllIsPut (Ends pages ∷ actions) = AllIsPut actions
AllIsPut (Leaves pages ∷ actions) = ⊥
AllIsPut (Lets pages ∷ actions) = AllIsPut actions
AllIsPut (Beside ∷ actions) = AllIsPut actions
AllIsPut (Stops ∷ actions) = AllIsPut actions

-- the pages that are owed are those that the gateway's book has left, each life was restored with just these, and over all lives
-- the pages of the jobs that ended, and after them those that are owed, are the pages that were confirmed, in their order
pub record NoneIsLostOf (writes : Writing) (actions : List PageAction) (lives : List Life) :
    Type 0 where
  pub owed_are : map page_of (owed actions) ≡ pages_left writes lives
  pub kept : AreStored writes lives
  pub none_is_lost : all_confirmed lives ≡ all_ended writes lives ++ map page_of (owed actions)

-- NONE IS LOST where all is put: none is added, none comes twice.
abbrev pub ServersLoseNone : Type 0
ServersLoseNone = (writes : Writing) (actions : List PageAction) (lives : List Life)
    → AreOfLives writes actions lives → AllIsPut actions → NoneIsLostOf writes actions lives

-- ---- where something was not put, or not noted

-- the pages of each job
abbrev pub sizes : List JobValue → List ℕ
sizes jobs = map (λ job. length job.pages) jobs

-- of the jobs that ended in the last life, those whose ends are on the disk, or none of whose pages is: how many each had
abbrev pub noted : List PageAction → List ℕ
noted [] = []
noted (Turns given ∷ actions) = noted actions
noted (Begins ∷ actions) = noted actions
noted (Stores given page ∷ actions) = noted actions
noted (Refuses given page is_there ∷ actions) = noted actions
noted (Ends pages ∷ actions) = noted actions ++ pages ∷ []
noted (Leaves pages ∷ actions) = noted actions
noted (Lets pages ∷ actions) = noted actions ++ pages ∷ []
noted (Beside ∷ actions) = noted actions
noted (Stops ∷ actions) = []

-- and those whose ends have no record
abbrev pub unnoted : List PageAction → List ℕ
unnoted [] = []
unnoted (Turns given ∷ actions) = unnoted actions
unnoted (Begins ∷ actions) = unnoted actions
unnoted (Stores given page ∷ actions) = unnoted actions
unnoted (Refuses given page is_there ∷ actions) = unnoted actions
unnoted (Ends pages ∷ actions) = unnoted actions
unnoted (Leaves pages ∷ actions) = unnoted actions ++ pages ∷ []
unnoted (Lets pages ∷ actions) = unnoted actions
unnoted (Beside ∷ actions) = unnoted actions
unnoted (Stops ∷ actions) = []

-- The jobs of the last life that ended are those whose ends were noted, and after them those whose ends have no record. The queue
-- has the pages of these, and after them those that the book has left; what is owed are those of them that are on the disk.
pub record IsQueued (writes : Writing) (actions : List PageAction) (life : Life) : Type 0 where
  pub gone : List JobValue
  pub stay : List JobValue
  pub ended : (past_of (both_legs life.setup writes life.trace)).ended ≡ gone ++ stay
  pub are_noted : sizes gone ≡ noted actions
  pub are_unnoted : sizes stay ≡ unnoted actions
  pub queued : map page_of (map (λ e. e.page) (queue_of actions))
      ≡ pages_of_jobs stay ++ pages_left_in (book_of (both_legs life.setup writes life.trace))

-- THE QUEUE IS WHAT THE BOOK HAD LEFT, after any actions.
abbrev pub QueueIsLeft : Type 0
QueueIsLeft = (line : List ℕ) (state : State) (writes : Writing)
    (actions : List PageAction) (life : Life) (earlier : List Life) → WasDone line actions state
    → AreOfLives writes actions (life ∷ earlier) → IsQueued writes actions life

-- the pages that were put, over all lives: each put was answered Ok
abbrev pub pages_put : List PageAction → List CallPage
pages_put [] = []
pages_put (Turns given ∷ actions) = pages_put actions
pages_put (Begins ∷ actions) = pages_put actions
pages_put (Stores given page ∷ actions) = pages_put actions ++ page_of page ∷ []
pages_put (Refuses given page is_there ∷ actions) = pages_put actions
pages_put (Ends pages ∷ actions) = pages_put actions
pages_put (Leaves pages ∷ actions) = pages_put actions
pages_put (Lets pages ∷ actions) = pages_put actions
pages_put (Beside ∷ actions) = pages_put actions
pages_put (Stops ∷ actions) = pages_put actions

-- the pages of the jobs that ended, over all lives, each from the life in which its job's end was noted
abbrev pub pages_gone : List PageAction → List CallPage
pages_gone [] = []
pages_gone (Turns given ∷ actions) = pages_gone actions
pages_gone (Begins ∷ actions) = pages_gone actions
pages_gone (Stores given page ∷ actions) = pages_gone actions
pages_gone (Refuses given page is_there ∷ actions) = pages_gone actions
pages_gone (Ends pages ∷ actions) =
    pages_gone actions ++ map page_of (map (λ e. e.page) (take pages (queue_of actions)))
pages_gone (Leaves pages ∷ actions) = pages_gone actions
pages_gone (Lets pages ∷ actions) =
    pages_gone actions ++ map page_of (map (λ e. e.page) (take pages (queue_of actions)))
pages_gone (Beside ∷ actions) = pages_gone actions
pages_gone (Stops ∷ actions) = pages_gone actions

-- Each page that was put is gone with a job that ended, or is owed; what is gone ended in some life; and what is gone or owed was
-- confirmed, over all lives: in one order, and none twice.
pub record NoneThatWasPutIsLost (writes : Writing) (actions : List PageAction) (lives : List Life) :
    Type 0 where
  pub none_is_lost :
      AreSomeOf (pages_put actions) (pages_gone actions ++ map page_of (owed actions))
  pub ended : AreSomeOf (pages_gone actions) (all_ended writes lives)
  pub none_is_added :
      AreSomeOf (pages_gone actions ++ map page_of (owed actions)) (all_confirmed lives)

-- NONE THAT WAS PUT IS LOST, whatever else was not put or not noted.
abbrev pub ServersLoseNoneThatWasPut : Type 0
ServersLoseNoneThatWasPut = (writes : Writing) (actions : List PageAction) (lives : List Life)
    → AreOfLives writes actions lives → NoneThatWasPutIsLost writes actions lives

-- ---- there are such actions

-- nothing of it is on the disk
abbrev pub NothingIsPut : List PageAction → Type 0
NothingIsPut [] = Unit {0}
NothingIsPut (Turns given ∷ actions) = NothingIsPut actions
NothingIsPut (Begins ∷ actions) = NothingIsPut actions
NothingIsPut (Stores given page ∷ actions) = ⊥
NothingIsPut (Refuses given page is_there ∷ actions) = (is_there ≡ false) × NothingIsPut actions
NothingIsPut (Ends pages ∷ actions) = ⊥
NothingIsPut (Leaves pages ∷ actions) = NothingIsPut actions
NothingIsPut (Lets pages ∷ actions) = ⊥
NothingIsPut (Beside ∷ actions) = NothingIsPut actions
NothingIsPut (Stops ∷ actions) = NothingIsPut actions

-- the actions go on to be those of these lives, where all is put from now on, and where nothing is
pub record GoOn (writes : Writing) (actions : List PageAction) (lives : List Life) : Type 0 where
  pub where_all : (more : List PageAction)
      × AllIsPut more × AreOfLives writes (more ++ actions) lives
  pub where_nothing : (more : List PageAction)
      × NothingIsPut more × AreOfLives writes (more ++ actions) lives

-- A SERVER GOES ON, whatever comes to its gateway. So no law over actions and lives speaks of nothing.
abbrev pub ServersGoOn : Type 0
ServersGoOn = (writes : Writing)
    (actions : List PageAction) (life : Life) (earlier : List Life) (event : Event)
    → AreOfLives writes actions (life ∷ earlier) → IsTrace life.setup writes (event ∷ life.trace)
    → GoOn writes actions (record { setup = life.setup; trace = event ∷ life.trace } ∷ earlier)

-- And it begins again, where its gateway is set up with what is owed: at first with nothing.
abbrev pub ServersBegin : Type 0
ServersBegin = (writes : Writing)
    → AreOfLives writes [] [] × ((actions : List PageAction) (lives : List Life) (setup : Setup)
    → AreOfLives writes actions lives → setup.restored ≡ calls_of (closed_read (owed actions))
    → AreOfLives writes (Stops ∷ actions) (record { setup = setup; trace = [] } ∷ lives))
