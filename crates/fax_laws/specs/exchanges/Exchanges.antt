-- EXCHANGES OVER GOOD LINES, on which each datagram that was handed over comes at the other end, once and in order. (This project's
-- profile.) Lists have the newest first.
use Rattle.std.specs.Prelude.{◌≡◌, ℕ, ◌*◌, ◌≤◌, false, List, [], ◌∷◌, Some}
use Rattle.fax_pagestore.specs.Pages.{PageValue, IsPage}
use Rattle.fax_jobs.specs.declared.outcome.Outcome.TheVariants as outcomes
use Rattle.fax_jobs.specs.Books.{job_of, report_of}
use Rattle.fax_jobs.specs.Jobs.{JobValue}
use Rattle.fax_call.specs.Writings.{Writing, IsWriting}
use Rattle.fax_gateway.specs.Setups.{Setup}
use Rattle.fax_gateway.specs.Wires.{HandedDatagram}
use Rattle.fax_gateway.specs.Driving.{receipts, sent}
use Rattle.fax_gateway.specs.Traces.{IsTrace}
use Rattle.fax_laws.specs.delivery.Datagrams.{by_caller}
use Rattle.fax_laws.specs.delivery.Delivered.{most_rounds}
use Rattle.fax_laws.specs.delivery.Gateways.{by_machine}
use Rattle.fax_laws.specs.delivery.Links.{IsReader, Reader}
use Rattle.fax_terminal.specs.Ends.{handed}
use Rattle.fax_loop.specs.Exchanges as exchanges
use Rattle.fax_loop.specs.Exchanges.{AreRounds, IsOver, Round, answerer_after, caller_after, moment_after, reported, trace_after}
use Rattle.fax_loop.specs.Links.{came_called, came_calling, handed_called, on_calling}
use Rattle.fax_terminal.specs.Terminals.{called_with, calling_with, octets_of, pages_on}

-- what a gateway handed over on its calling leg
abbrev pub handed_calling : List HandedDatagram → List (List ℕ)
handed_calling [] = []
handed_calling (handed ∷ earlier) = on_calling handed.leg handed.octets (handed_calling earlier)

-- what was handed over in the last round: on the gateway's calling leg, and by the machine that is called
abbrev pub by_gateway : List Round → List (List ℕ)
by_gateway [] = []
by_gateway (round ∷ earlier) = handed_calling (sent round.gateway)

abbrev pub by_answerer : Setup → List Round → List (List ℕ)
by_answerer setup [] = []
by_answerer setup (round ∷ earlier) = handed (by_machine setup (moment_after earlier)
    (called_with setup (moment_after earlier) round.called (answerer_after setup earlier)))

-- In a round there come: to the machine that calls what the gateway handed over in the last one; to the gateway what the machine that calls
-- hands over in this one, and what the machine that is called did in the last; and to that what the gateway hands over in this one.
pub record ComesOnce (setup : Setup)
    (writes : Writing) (job : JobValue) (earlier : List Round) (round : Round) : Type 0 where
  pub to_caller : round.calling ≡ by_gateway earlier
  pub on_calling : came_calling (receipts round.gateway)
      ≡ handed (by_caller setup writes (moment_after earlier) (calling_with
      writes (moment_after earlier) round.calling (caller_after setup writes job earlier)))
  pub on_called : came_called (receipts round.gateway) ≡ by_answerer setup earlier
  pub to_answerer : octets_of round.called ≡ handed_called (sent round.gateway)

abbrev pub EachComesOnce : Setup → Writing → JobValue → List Round → Type 0
EachComesOnce setup writes job [] = Unit {0}
EachComesOnce setup writes job (round ∷ earlier) =
    ComesOnce setup writes job earlier round × EachComesOnce setup writes job earlier

-- an exchange of a page over such lines that is played to its end, in which the page is delivered
pub record EndsWell (setup : Setup) (writes : Writing) (page : PageValue) : Type 0 where
  pub rounds : List Round
  pub are_rounds : AreRounds setup writes rounds
  pub over : IsOver setup writes rounds
  pub trace : IsTrace setup writes (trace_after rounds)
  pub once : EachComesOnce setup writes (job_of 0 page) rounds
  pub report : reported setup writes rounds ≡ Some (report_of (job_of 0 page) outcomes.Delivered 1)
  pub pages : pages_on (answerer_after setup rounds) ≡ page ∷ []

abbrev pub ExchangesEndWell : Type 0
ExchangesEndWell = (setup : Setup) (writes : Writing) (reads : Reader) (page : PageValue)
    → setup.asks ≡ false → setup.restored ≡ [] → IsWriting writes → IsReader reads
    → IsPage page → 2 * most_rounds writes page ≤ exchanges.most_rounds → EndsWell setup writes page
