-- What each MCF answers, and that nothing else adds a page to the book.
use Rattle.std.specs.Prelude.{◌≡◌, ℕ, true, false, List, [], ◌∷◌, ◌++◌, ◌⊎◌, Some}
use Rattle.fax_jobs.specs.Pasts.{Step, Confirms}
use Rattle.fax_jobs.specs.Cuts.{confirmations}
use Rattle.fax_answer.specs.Replies.{ConfirmedPage}
use Rattle.fax_answer.specs.Confirmation.{IsConfirmedIn, IsRepeatedIn}
use Rattle.fax_call.specs.Writings.{Writing}
use Rattle.fax_gateway.specs.Setups.{Setup}
use Rattle.fax_gateway.specs.Events.{Event, Tick, Given}
use Rattle.fax_gateway.specs.CallingLegs.{CallingLeg, core_of, calling_leg}
use Rattle.fax_gateway.specs.BothLegs.{both_legs}
use Rattle.fax_gateway.specs.Traces.{IsTrace}
use Rattle.fax_gateway.specs.Told.{gives_mcf}

-- the steps after the old ones confirm no page
pub record AddsNoPage (old new : List Step) : Type 0 where
  pub later : List Step
  pub no_page : confirmations later ≡ []
  pub steps_are : new ≡ later ++ old

-- a page is confirmed, and the book has it from this tick on, once, under the number of the call
pub record ConfirmsNow (leg : CallingLeg) (old new : List Step) : Type 0 where
  pub confirmed : ConfirmedPage
  pub confirmation : IsConfirmedIn (core_of leg).history confirmed
  pub one_page : AddsNoPage (Confirms leg.number confirmed.page confirmed.closes ∷ old) new

-- or the last answer is given again, to a command that repeats the one answered, with no image, nothing missing and no signal
-- since; and the book gets no page
pub record GivesAgain (leg : CallingLeg) (old new : List Step) : Type 0 where
  pub repeated : IsRepeatedIn (core_of leg).history
  pub no_page : AddsNoPage old new

abbrev pub EachMcfAnswers : Type 0
EachMcfAnswers = (setup : Setup) (writes : Writing) (earlier : List Event) (at : ℕ) (given : Given)
    → IsTrace setup writes (Tick at given ∷ earlier)
    → let old : List Step = (both_legs setup writes earlier).steps
    in let new : List Step = (both_legs setup writes (Tick at given ∷ earlier)).steps
    in (gives_mcf given.on_calling ≡ true → (leg : CallingLeg)
    × (calling_leg setup earlier ≡ Some leg) × (ConfirmsNow leg old new ⊎ GivesAgain leg old new))
    × (gives_mcf given.on_calling ≡ false → AddsNoPage old new)
