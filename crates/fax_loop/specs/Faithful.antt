-- WHAT AN EXCHANGE PRINTS, over links that carry what was handed to them: lost, repeated, late and out of order at will. (This
-- project's profile.) Lists have the newest first.
use Rattle.std.specs.Prelude.{◌≡◌, ◌≢◌, ℕ, List, [], All, reverse, Option, Some, None}
use Rattle.fax_pagestore.specs.Pages.{PageValue, IsPage}
use Rattle.fax_udptl.specs.Datagrams.{DatagramValue}
use Rattle.fax_udptl.specs.Schedules.{Arrival, IsHonest, datagrams}
use Rattle.fax_jobs.specs.declared.outcome.Outcome.TheVariants as outcomes
use Rattle.fax_jobs.specs.declared.report.Report.{Report}
use Rattle.fax_jobs.specs.Books.{job_of}
use Rattle.fax_jobs.specs.Jobs.{JobValue}
use Rattle.fax_call.specs.Writings.{IsWriting, Writing}
use Rattle.fax_gateway.specs.CalledLegs.{CalledLeg}
use Rattle.fax_gateway.specs.CallingLegs.{calling_leg}
use Rattle.fax_gateway.specs.Reached.{arrived_on, given_on}
use Rattle.fax_gateway.specs.Setups.{Setup}
use Rattle.fax_gateway.specs.BothLegs.{both_legs}
use Rattle.fax_gateway.specs.Traces.{IsTrace}
use Rattle.fax_loop.specs.Exchanges.{AreRounds, Round, answerer_after, caller_after, reported, trace_after}
use Rattle.fax_terminal.specs.Terminals.{pages_on}

-- The datagrams that came in a call are those of the packets that were given at the other end, by an honest schedule.
pub record AreCarried (given : List (List ℕ)) (arrived : List DatagramValue) : Type 0 where
  pub arrivals : List Arrival
  pub honest : IsHonest (reverse given) arrivals
  pub arrived_are : arrived ≡ datagrams arrivals

-- the packets that the gateway gave in the last call of its called leg
abbrev pub given_by : Option CalledLeg → List (List ℕ)
given_by None = []
given_by (Some l) = l.given

-- It is so from the machine that calls to the gateway, and from the gateway to the machine that is called. What goes back may be any
-- datagrams.
pub record AreHonest (setup : Setup) (writes : Writing) (job : JobValue) (rounds : List Round) :
    Type 0 where
  pub to_gateway : AreCarried (caller_after setup writes job rounds).given
      (arrived_on (calling_leg setup (trace_after rounds)))
  pub to_answerer : AreCarried (given_by (both_legs setup writes (trace_after rounds)).leg)
      (arrived_on (answerer_after setup rounds))

-- pages that are this page, each of them
abbrev pub AreThePage : PageValue → List PageValue → Type 0
AreThePage page pages = All (λ p. p ≡ page) pages

-- Then each page that the machine that is called confirms is the page that the machine that calls was given. (It may be more than
-- one: where an MCF is lost, the page is sent again.)
abbrev pub ConfirmsThePage : Type 0
ConfirmsThePage = (setup : Setup) (writes : Writing) (page : PageValue) (rounds : List Round)
    → setup.restored ≡ [] → IsWriting writes → IsPage page → AreRounds setup writes rounds
    → IsTrace setup writes (trace_after rounds) → AreHonest setup writes (job_of 0 page) rounds
    → AreThePage page (pages_on (answerer_after setup rounds))

-- the datagrams that came to the gateway in the last call of its called leg
abbrev pub arrived_by : Option CalledLeg → List DatagramValue
arrived_by None = []
arrived_by (Some l) = l.arrived

-- And where the way back from the machine that is called is honest too, and the gateway reports that the job was delivered, it
-- confirmed a page at least.
abbrev pub ConfirmsIfDelivered : Type 0
ConfirmsIfDelivered =
    (setup : Setup) (writes : Writing) (page : PageValue) (rounds : List Round) (report : Report)
    → setup.restored ≡ [] → IsWriting writes → IsPage page → AreRounds setup writes rounds
    → IsTrace setup writes (trace_after rounds) → AreHonest setup writes (job_of 0 page) rounds
    → AreCarried (given_on (answerer_after setup rounds))
    (arrived_by (both_legs setup writes (trace_after rounds)).leg)
    → reported setup writes rounds ≡ Some report
    → report.outcome ≡ outcomes.Delivered → pages_on (answerer_after setup rounds) ≢ []
