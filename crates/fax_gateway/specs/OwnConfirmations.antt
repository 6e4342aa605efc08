-- Each page that goes out has a confirmation of its own: that of its place.
use Rattle.std.specs.Prelude.{◌≡◌, ℕ, zero, suc, ◌+◌, List, [], ◌∷◌, length, Option, Some, None}
use Rattle.fax_pagestore.specs.Pages.{PageValue}
use Rattle.fax_jobs.specs.Jobs.{JobValue}
use Rattle.fax_jobs.specs.Cuts.{pages_of}
use Rattle.fax_answer.specs.Replies.{ConfirmedPage}
use Rattle.fax_call.specs.Writings.{Writing, IsWriting}
use Rattle.fax_call.specs.Emission.{Emission, Mark, IsPageOf}
use Rattle.fax_gateway.specs.Restored.{CallPage, pages_restored}
use Rattle.fax_gateway.specs.Setups.{Setup}
use Rattle.fax_gateway.specs.Events.{Event, Ring, FromCalling, FromCalled, Tick, Placed, Given, clock}
use Rattle.fax_gateway.specs.CallingLegs.{calling_leg}
use Rattle.fax_gateway.specs.BothLegs.{both_legs, past_of}
use Rattle.fax_gateway.specs.Traces.{IsTrace}
use Rattle.fax_gateway.specs.Told.{elements_told, leg_marks, marks_before, EachEmission}
use Rattle.fax_gateway.specs.Forwards.{WasConfirmedIn}
use Rattle.fax_gateway.specs.Cuts.{confirmed_at}

-- How many pages were confirmed in a trace, over all calls. A tick confirms one at most: the confirmation with k before it
-- stands at one tick, and a later one at a later tick.
abbrev pub one_if_some : Option ConfirmedPage → ℕ
one_if_some None = 0
one_if_some (Some c) = 1

abbrev pub confirmations_in : Setup → List Event → ℕ
confirmations_in setup [] = 0
confirmations_in setup (Ring at number ∷ earlier) = confirmations_in setup earlier
confirmations_in setup (FromCalling octets at decided read ∷ earlier) =
    confirmations_in setup earlier
confirmations_in setup (FromCalled octets at decided ∷ earlier) = confirmations_in setup earlier
confirmations_in setup (Tick at given ∷ earlier) = confirmations_in setup earlier
    + one_if_some (confirmed_at (calling_leg setup earlier) (clock (Tick at given ∷ earlier)))
confirmations_in setup (Placed at connected ∷ earlier) = confirmations_in setup earlier

-- the MCF of a tick confirmed the page, in the call of this number, and before that tick just so many pages were confirmed
pub record IsNumber (setup : Setup) (trace : List Event) (call : ℕ) (page : PageValue) (k : ℕ) :
    Type 0 where
  pub confirmed : WasConfirmedIn setup trace call page
  pub before_it : confirmations_in setup confirmed.earlier ≡ k

-- Confirmation k of all is that of the page: the pages that were restored have the first, in their order, and `Own` tells of those
-- of the trace, by how many of the trace are before it.
abbrev pub HasNumber : List CallPage
    → (k : ℕ) → (call : ℕ) → (page : PageValue) → (Own : ℕ → Type 0) → Type 0
HasNumber [] k call page Own = Own k
HasNumber (r ∷ restored) zero call page Own = r ≡ record { call = call; page = page }
HasNumber (r ∷ restored) (suc k) call page Own = HasNumber restored k call page Own

-- An image that a tick ends is page n of the job that was being sent before the tick. It is the page of an earlier tick's MCF in
-- the call that the job names, or one that was restored, and before that just so many pages were restored and confirmed as the
-- jobs that ended have, and n. So page n of the job has confirmation n after theirs, no other page has it, and later pages have
-- later ones.
pub record HasItsOwn (setup : Setup) (writes : Writing)
    (earlier : List Event) (marks : List Mark) (emission : Emission) : Type 0 where
  pub job : JobValue
  pub is_sending : (past_of (both_legs setup writes earlier)).book.sending ≡ Some job
  pub n : ℕ
  pub is_page : IsPageOf job n emission
  pub confirmed : HasNumber (pages_restored setup.restored)
      (length (pages_of (past_of (both_legs setup writes earlier)).ended)
      + n) job.call is_page.page (IsNumber setup earlier job.call is_page.page)

abbrev pub EachPageHasItsOwnConfirmation : Type 0
EachPageHasItsOwnConfirmation =
    (setup : Setup) (writes : Writing) (earlier : List Event) (at : ℕ) (given : Given)
    → IsWriting writes → IsTrace setup writes (Tick at given ∷ earlier)
    → EachEmission (HasItsOwn setup writes earlier) (marks_before
    setup writes earlier at (leg_marks setup writes earlier)) (elements_told given.on_called)
