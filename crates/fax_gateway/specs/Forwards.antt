-- What is forwarded was confirmed: every trace.
use Rattle.std.specs.Prelude.{◌≡◌, ℕ, max, true, List, [], ◌∷◌, ◌++◌, ◌⊎◌, Option, Some}
use Rattle.fax_pagestore.specs.Pages.{PageValue}
use Rattle.fax_jobs.specs.Jobs.{JobValue}
use Rattle.fax_jobs.specs.Books.{Book}
use Rattle.fax_answer.specs.Replies.{ConfirmedPage}
use Rattle.fax_answer.specs.Confirmation.{IsConfirmedIn}
use Rattle.fax_call.specs.Writings.{Writing, IsWriting}
use Rattle.fax_call.specs.Emission.{Emission, Mark, IsPageOf, IsAnswered, Emits, replied}
use Rattle.fax_gateway.specs.Restored.{CallPage, pages_restored}
use Rattle.fax_gateway.specs.Setups.{Setup}
use Rattle.fax_gateway.specs.Events.{Event, Tick, Given, clock}
use Rattle.fax_gateway.specs.CallingLegs.{CallingLeg, core_of, calling_leg, answers, confirmed_by}
use Rattle.fax_gateway.specs.BothLegs.{book_of, in_tick}
use Rattle.fax_gateway.specs.Traces.{IsTrace}
use Rattle.fax_gateway.specs.Told.{elements_told, gives_mcf, leg_marks, marks_before, EachEmission}

-- In the trace there is a tick that gave the frame MCF, in the call of this number, and it confirms this page: its command
-- stands after exactly one image since the last CFR or MCF, which is whole and means the page under the DCS that the last
-- CFR answered.
pub record WasConfirmedIn (setup : Setup) (trace : List Event) (call : ℕ) (page : PageValue) :
    Type 0 where
  pub later : List Event
  pub at : ℕ
  pub given : Given
  pub earlier : List Event
  pub split : trace ≡ later ++ Tick at given ∷ earlier
  pub mcf : gives_mcf given.on_calling ≡ true
  pub leg : CallingLeg
  pub is_leg : calling_leg setup earlier ≡ Some leg
  pub in_call : leg.number ≡ call
  pub confirmed : ConfirmedPage
  pub same_page : confirmed.page ≡ page
  pub gives : confirmed_by (answers leg (max at (clock earlier))).given ≡ Some confirmed
  pub confirmation : IsConfirmedIn (core_of leg).history confirmed

-- Or the page is one of those that were restored, of the call of this number. Where none was restored, it is the former alone.
abbrev pub OrRestored : List CallPage → ℕ → PageValue → (this : Type 0) → Type 0
OrRestored [] call page this = this
OrRestored (r ∷ restored) call page this =
    (r ≡ record { call = call; page = page }) ⊎ OrRestored restored call page this

abbrev pub WasConfirmed : Setup → List Event → ℕ → PageValue → Type 0
WasConfirmed setup trace call page =
    OrRestored (pages_restored setup.restored) call page (WasConfirmedIn setup trace call page)

-- An image that a tick ends: `book` is the book when the called leg is served, and `marks` what that leg heard and gave before
-- the image's end; `Confirmed` tells of a page that it was confirmed, in the call of a number.
pub record IsForwardedBy (Confirmed : ℕ → PageValue → Type 0)
    (book : Book) (marks : List Mark) (emission : Emission) : Type 0 where
  -- a job is being sent
  pub job : JobValue
  pub is_sending : book.sending ≡ Some job
  -- the image means page n of it, under the DCS given last before it
  pub n : ℕ
  pub is_page : IsPageOf job n emission
  -- the first is page 0; each later one is the next page where MCF or RTP answered the last one's command, and the same page
  -- where RTN did
  pub last : Option ℕ
  pub emitted : Emits job marks last
  pub answered : IsAnswered last (replied marks) n
  -- it was confirmed, in the call that the job names
  pub confirmed : Confirmed job.call is_page.page

-- An MCF at an earlier tick did that: `earlier` is the trace before the tick.
abbrev pub IsForwarded : Setup → List Event → Book → List Mark → Emission → Type 0
IsForwarded setup earlier = IsForwardedBy (WasConfirmed setup earlier)

-- That is each image that the datagram given on the called leg ends.
abbrev pub ForwardsWhatItConfirmed : Type 0
ForwardsWhatItConfirmed =
    (setup : Setup) (writes : Writing) (earlier : List Event) (at : ℕ) (given : Given)
    → IsWriting writes → IsTrace setup writes (Tick at given ∷ earlier)
    → EachEmission (IsForwarded setup earlier (book_of (in_tick setup writes earlier at)))
    (marks_before setup writes earlier at (leg_marks setup writes earlier))
    (elements_told given.on_called)
