-- LIVES: a gateway that may stop at any moment, and is restored with what was kept of its pages. (This project's profile.) A
-- restart is no event: it is the beginning of another trace.
use Rattle.std.specs.Prelude.{◌≡◌, ℕ, List, [], ◌∷◌, ◌++◌, ◌⊎◌, Option, Some, None}
use Rattle.fax_pagestore.specs.Pages.{PageValue}
use Rattle.fax_jobs.specs.Jobs.{JobValue}
use Rattle.fax_jobs.specs.Books.{Book}
use Rattle.fax_jobs.specs.Pasts.{as_list}
use Rattle.fax_answer.specs.Replies.{ConfirmedPage}
use Rattle.fax_call.specs.Writings.{Writing, IsWriting}
use Rattle.fax_gateway.specs.Restored.{CallPage, pages_restored}
use Rattle.fax_gateway.specs.Setups.{Setup}
use Rattle.fax_gateway.specs.Events.{Event, Ring, FromCalling, FromCalled, Tick, Placed, Given, clock}
use Rattle.fax_gateway.specs.CallingLegs.{CallingLeg, calling_leg, answers, confirmed_by}
use Rattle.fax_gateway.specs.BothLegs.{past_of, book_of, both_legs, in_tick}
use Rattle.fax_gateway.specs.Traces.{IsTrace}
use Rattle.fax_gateway.specs.Told.{elements_told, leg_marks, marks_before, EachEmission}
use Rattle.fax_gateway.specs.Forwards.{WasConfirmedIn, IsForwardedBy}

-- a gateway from its beginning to where it stopped
pub record Life : Type 0 where
  pub setup : Setup
  pub trace : List Event

-- the pages that it confirmed, in order, each with the number of its call
abbrev pub page_list : ℕ → Option ConfirmedPage → List CallPage
page_list number None = []
page_list number (Some c) = record { call = number; page = c.page } ∷ []

abbrev pub pages_at : Option CallingLeg → ℕ → List CallPage
pages_at None now = []
pages_at (Some l) now = page_list l.number (confirmed_by (answers l now).given)

abbrev pub pages_confirmed : Setup → List Event → List CallPage
pages_confirmed setup [] = []
pages_confirmed setup (Ring at number ∷ earlier) = pages_confirmed setup earlier
pages_confirmed setup (FromCalling octets at decided read ∷ earlier) = pages_confirmed setup earlier
pages_confirmed setup (FromCalled octets at decided ∷ earlier) = pages_confirmed setup earlier
pages_confirmed setup (Tick at given ∷ earlier) = pages_confirmed setup earlier
    ++ pages_at (calling_leg setup earlier) (clock (Tick at given ∷ earlier))
pages_confirmed setup (Placed at connected ∷ earlier) = pages_confirmed setup earlier

-- the pages that the last of some lives had, the newest of which is the first: those that it was restored with, and those
abbrev pub pages_had : List Life → List CallPage
pages_had [] = []
pages_had (life ∷ earlier) =
    pages_restored life.setup.restored ++ pages_confirmed life.setup life.trace

-- some of these pages, in their order, each once
abbrev pub AreSomeOf : (some : List CallPage) → (all : List CallPage) → Type 0
AreSomeOf some [] = some ≡ []
AreSomeOf [] (p ∷ all) = Unit {0}
AreSomeOf (q ∷ some) (p ∷ all) = ((q ≡ p) × AreSomeOf some all) ⊎ AreSomeOf (q ∷ some) all

-- Each life is restored with some of the pages that the one before it had: whichever were kept. The first has none.
abbrev pub AreLives : Writing → List Life → Type 0
AreLives writes [] = Unit {0}
AreLives writes (life ∷ earlier) = IsTrace life.setup writes life.trace
    × AreSomeOf (pages_restored life.setup.restored) (pages_had earlier) × AreLives writes earlier

-- in one of these lives
abbrev pub WasConfirmedInOne : List Life → ℕ → PageValue → Type 0
WasConfirmedInOne [] call page = ⊥
WasConfirmedInOne (life ∷ earlier) call page =
    WasConfirmedIn life.setup life.trace call page ⊎ WasConfirmedInOne earlier call page

-- Each image that goes out in a life is forwarded as in a life with none before it, and an MCF confirmed its page at an earlier
-- tick, of this life or of one before it, in the call that the job names.
abbrev pub ForwardsOverLives : Type 0
ForwardsOverLives = (setup : Setup) (writes : Writing)
    (lives : List Life) (earlier : List Event) (at : ℕ) (given : Given) → IsWriting writes
    → AreLives writes (record { setup = setup; trace = Tick at given ∷ earlier } ∷ lives)
    → EachEmission (IsForwardedBy (WasConfirmedInOne (record { setup = setup; trace = earlier }
    ∷ lives)) (book_of (in_tick setup writes earlier at))) (marks_before
    setup writes earlier at (leg_marks setup writes earlier)) (elements_told given.on_called)

-- ---- where just those pages are stored whose jobs had not ended

-- the pages of jobs, in order, each with the number of the job's call
abbrev pub pages_in : ℕ → List PageValue → List CallPage
pages_in call [] = []
pages_in call (page ∷ pages) = record { call = call; page = page } ∷ pages_in call pages

abbrev pub pages_of_jobs : List JobValue → List CallPage
pages_of_jobs [] = []
pages_of_jobs (job ∷ jobs) = pages_in job.call job.pages ++ pages_of_jobs jobs

-- of the jobs that have not ended: the one that is being sent, those that wait, and the open one
abbrev pub pages_left_in : Book → List CallPage
pages_left_in book = pages_of_jobs (as_list book.sending)
    ++ (pages_of_jobs book.waiting ++ pages_of_jobs (as_list book.open_job))

abbrev pub pages_left : Writing → List Life → List CallPage
pages_left writes [] = []
pages_left writes (life ∷ earlier) =
    pages_left_in (book_of (both_legs life.setup writes life.trace))

abbrev pub AreStored : Writing → List Life → Type 0
AreStored writes [] = Unit {0}
AreStored writes (life ∷ earlier) = IsTrace life.setup writes life.trace
    × (pages_restored life.setup.restored ≡ pages_left writes earlier) × AreStored writes earlier

-- over all lives: what was confirmed, and what the jobs that ended had
abbrev pub all_confirmed : List Life → List CallPage
all_confirmed [] = []
all_confirmed (life ∷ earlier) = all_confirmed earlier ++ pages_confirmed life.setup life.trace

abbrev pub all_ended : Writing → List Life → List CallPage
all_ended writes [] = []
all_ended writes (life ∷ earlier) = all_ended writes earlier
    ++ pages_of_jobs (past_of (both_legs life.setup writes life.trace)).ended

-- Over all lives the pages of the jobs that ended, and after them those of the jobs that have not, are the pages that were
-- confirmed, in their order: none is lost, none added, none twice.
abbrev pub NoneIsLost : Type 0
NoneIsLost = (writes : Writing) (lives : List Life) → AreStored writes lives
    → all_confirmed lives ≡ all_ended writes lives ++ pages_left writes lives
