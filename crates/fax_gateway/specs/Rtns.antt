-- What each RTN answers on the calling leg, and how each command is judged there. (ITU-T T.30, 5.3.6.1.7)
use Rattle.std.specs.Prelude.{◌≡◌, ℕ, true, List, ◌∷◌, ◌++◌, Some}
use Rattle.fax_ifp.specs.Pieces as pieces
use Rattle.fax_jobs.specs.Pasts.{Step}
use Rattle.fax_answer.specs.declared.command.Command.{Command}
use Rattle.fax_answer.specs.declared.command.Order.TheVariants.{Judge}
use Rattle.fax_answer.specs.Orders.{order_of}
use Rattle.fax_answer.specs.History.{Entry, Decision, PassesOver, GivesRtn}
use Rattle.fax_answer.specs.EachCommand.{IsJudged}
use Rattle.fax_answer.specs.EachRtn.{IsRefusedIn}
use Rattle.fax_call.specs.Writings.{Writing}
use Rattle.fax_gateway.specs.Setups.{Setup}
use Rattle.fax_gateway.specs.Events.{Event, Tick, Given}
use Rattle.fax_gateway.specs.CallingLegs.{CallingLeg, core_of, calling_leg}
use Rattle.fax_gateway.specs.BothLegs.{both_legs}
use Rattle.fax_gateway.specs.Traces.{IsTrace}
use Rattle.fax_gateway.specs.Told.{gives_rtn}
use Rattle.fax_gateway.specs.Answers.{AddsNoPage}

-- The last command that was answered is refused, judged as each is, and the book gets no page.
pub record RefusesNow (leg : CallingLeg) (old new : List Step) : Type 0 where
  pub refused : IsRefusedIn (core_of leg).history
  pub judged : IsJudged (core_of leg).history refused.before refused.command GivesRtn
  pub no_page : AddsNoPage old new

-- Each tick that gives the calling leg the frame RTN, by the octets of its datagram, does so.
abbrev pub EachRtnAnswers : Type 0
EachRtnAnswers = (setup : Setup) (writes : Writing) (earlier : List Event) (at : ℕ) (given : Given)
    → IsTrace setup writes (Tick at given ∷ earlier) → gives_rtn given.on_calling ≡ true
    → (leg : CallingLeg) × (calling_leg setup earlier ≡ Some leg)
    × RefusesNow leg (both_legs setup writes earlier).steps (both_legs setup writes (Tick at given
    ∷ earlier)).steps

-- In every trace each frame of a command that came on the calling leg and was not passed over is judged: where one whole image
-- came in Page with nothing after it, the answer is RTN exactly where it means no page, and else MCF for the page that it means.
abbrev pub CommandsAreJudged : Type 0
CommandsAreJudged = (setup : Setup) (writes : Writing) (trace : List Event) (leg : CallingLeg)
    (later before : List Entry) (octets : List ℕ) (d : Decision) (command : Command)
    → IsTrace setup writes trace → calling_leg setup trace ≡ Some leg
    → (core_of leg).history ≡ later ++ record { piece = pieces.Frame octets; decision = d } ∷ before
    → order_of octets ≡ Judge command
    → (d ≡ PassesOver → ⊥) → IsJudged (core_of leg).history before command d
