-- A GOOD PAGE GETS THROUGH A GATEWAY: a machine calls it and sends a page, and it calls another machine with that page. Each datagram
-- that one of the three gives comes to the next one, once and in order. (ITU-T T.30 and T.38, UDPTL. That rounds are 40 ms apart, and
-- their order, is this project's profile.) Lists have the newest first.
use Rattle.std.specs.Prelude.{◌≡◌, ◌⊎◌, ℕ, zero, suc, ◌+◌, ◌*◌, ◌<◌, ◌≤◌, ◌^◌, false, List, [], ◌∷◌, length, reverse, Option, Some, None, option_map}
use Rattle.fax_pagestore.specs.Pages.{PageValue, IsPage}
use Rattle.fax_jobs.specs.declared.outcome.Outcome.TheVariants as outcomes
use Rattle.fax_jobs.specs.Books.{job_of, report_of}
use Rattle.fax_jobs.specs.Jobs.{JobValue, IsJob}
use Rattle.fax_answer.specs.Calls.{new_answering, rung}
use Rattle.fax_answer.specs.Sent.{pages_confirmed}
use Rattle.fax_call.specs.Writings.{Writing, IsWriting}
use Rattle.fax_gateway.specs.Setups.{Setup}
use Rattle.fax_gateway.specs.Events.{Event, Ring, FromCalling, FromCalled, Tick, Given}
use Rattle.fax_gateway.specs.CallingLegs as answers
use Rattle.fax_gateway.specs.CallingLegs.{CallingLeg, calling_leg, decided_calling, question, rung_leg, told_calling}
use Rattle.fax_gateway.specs.CalledLegs as calls
use Rattle.fax_gateway.specs.CalledLegs.{CalledLeg, begun_leg, core_left, decided_called, told_called, told_report, with_tick}
use Rattle.fax_gateway.specs.BothLegs.{book_of, both_legs, in_tick}
use Rattle.fax_gateway.specs.Traces.{IsTrace}
use Rattle.fax_laws.specs.delivery.Links.{Reader, IsReader, read_by}
use Rattle.fax_laws.specs.delivery.Delivered.{most_rounds}
use Rattle.fax_laws.specs.delivery.Jobs.{rounds_of_pages}
use Rattle.fax_laws.specs.delivery.Datagrams.{caller_with, answerer_with, by_caller, by_answerer}

-- The machine that calls, the gateway's trace, the machine that is called, once it was rung, and the datagrams that were given in the
-- last round: to the machine that calls, and by the one that is called
pub record Relay : Type 0 where
  pub caller : CalledLeg
  pub trace : List Event
  pub answerer : Option CallingLeg
  pub to_caller : Option (List ℕ)
  pub to_gateway : Option (List ℕ)

-- a datagram comes to the gateway, where there is one, on either leg
abbrev pub with_calling : Setup → Reader → ℕ → Option (List ℕ) → List Event → List Event
with_calling setup reads now None trace = trace
with_calling setup reads now (Some octets) trace =
    FromCalling octets now (decided_calling (calling_leg setup trace) octets)
    (read_by reads (question (calling_leg setup trace) now octets)) ∷ trace

abbrev pub with_called : Setup → Writing → ℕ → Option (List ℕ) → List Event → List Event
with_called setup writes now None trace = trace
with_called setup writes now (Some octets) trace =
    FromCalled octets now (decided_called writes (both_legs setup writes trace).leg octets) ∷ trace

-- what its tick gives
abbrev pub given_at : Setup → Writing → ℕ → List Event → Given
given_at setup writes now trace = record {
  on_calling = told_calling setup (calling_leg setup trace) now;
  on_called = told_called setup writes (in_tick setup writes trace now).leg now;
  report = told_report writes (in_tick setup writes trace now).leg now;
}

-- the first datagram rings the machine that is called
abbrev pub machine_with : Setup
    → Reader → ℕ → Option (List ℕ) → Option CallingLeg → Option CallingLeg
machine_with setup reads now None leg = leg
machine_with setup reads now (Some octets) None =
    Some (answerer_with reads now (Some octets) (rung_leg (new_answering setup.pause) now 0))
machine_with setup reads now (Some octets) (Some l) = Some (answerer_with reads now (Some octets) l)

abbrev pub by_machine : Setup → ℕ → Option CallingLeg → Option (List ℕ)
by_machine setup now None = None
by_machine setup now (Some l) = by_answerer setup now l

-- A ROUND: the machine that calls has its turn, then the gateway, and then the machine that is called.
unfoldable pub relay_round : (first gateway last : Setup) → Writing → Reader → ℕ → Relay → Relay
relay_round first gateway last writes reads now r =
    let c : CalledLeg = caller_with writes now r.to_caller r.caller
    in let heard : List Event = with_called gateway
    writes now r.to_gateway (with_calling gateway reads now (by_caller first writes now c) r.trace)
    in let given : Given = given_at gateway writes now heard
    in let a : Option CallingLeg = machine_with last reads now given.on_called r.answerer
    in record {
      caller = with_tick (calls.calls writes c now) now c;
      trace = Tick now given ∷ heard;
      answerer = option_map (λ l. answers.leg_ticked l now) a;
      to_caller = given.on_calling;
      to_gateway = by_machine last now a;
    }

unfoldable pub relay_rounds : (first gateway last : Setup)
    → Writing → Reader → (many now : ℕ) → Relay → Relay
relay_rounds first gateway last writes reads zero now r = r
relay_rounds first gateway last writes reads (suc many) now r =
    relay_rounds first gateway last writes reads many (now
    + 40) (relay_round first gateway last writes reads now r)

-- a machine calls with a job, and the gateway is rung
abbrev pub relay_begun : Setup → Writing → JobValue → ℕ → Relay
relay_begun first writes job now =
    record {
      caller = begun_leg job (core_left first writes None) now;
      trace = Ring now 0 ∷ [];
      answerer = None;
      to_caller = None;
      to_gateway = None;
    }

-- the pages that the machine that is called confirmed
abbrev pub pages_on : Option CallingLeg → List PageValue
pages_on None = []
pages_on (Some l) = pages_confirmed (rung l.before l.begun) l.events

-- The gateway's trace is one of a gateway, its book tells that the one job was delivered, with one page, and the machine that is called
-- confirmed just this page.
pub record IsRelayed (gateway : Setup) (writes : Writing) (page : PageValue) (r : Relay) :
    Type 0 where
  pub is_trace : IsTrace gateway writes r.trace
  pub reports : (book_of (both_legs gateway writes r.trace)).reports
      ≡ report_of (job_of 0 page) outcomes.Delivered 1 ∷ []
  pub pages : pages_on r.answerer ≡ page ∷ []

-- Whichever the page, its format, and the redundancy and the pause of each of the three: after twice as many rounds as a call has, and
-- ever after, the page is delivered through a new gateway that begins its calls by itself.
abbrev pub GatewaysPassPages : Type 0
GatewaysPassPages = (first gateway last : Setup) (writes : Writing) (reads : Reader)
    (page : PageValue) (number start many : ℕ) → gateway.asks ≡ false → gateway.restored ≡ []
    → IsWriting writes → IsReader reads → IsPage page → 2 * most_rounds writes page ≤ many
    → start + 40 * many + 1 < 2 ^ 64 → IsRelayed gateway writes page (relay_rounds first
    gateway last writes reads many start (relay_begun first writes (job_of number page) start))

-- And at every moment either nothing is reported, or just that it was delivered, and then the machine that is called has confirmed the
-- page.
abbrev pub ReportsAreDeliveries : Type 0
ReportsAreDeliveries = (first gateway last : Setup)
    (writes : Writing) (reads : Reader) (page : PageValue) (number start many : ℕ)
    → gateway.asks ≡ false → gateway.restored ≡ [] → IsWriting writes → IsReader reads → IsPage page
    → start + 40 * (2 * most_rounds writes page + many) + 1 < 2 ^ 64 → let r : Relay = relay_rounds
    first gateway last writes reads many start (relay_begun first writes (job_of number page) start)
    in ((book_of (both_legs gateway writes r.trace)).reports ≡ []) ⊎ IsRelayed gateway writes page r

-- ---- A JOB OF ANY PAGES through a gateway

-- the job as the gateway has it: of its first call
abbrev pub first_job : JobValue → JobValue
first_job job = record { call = 0; format = job.format; pages = job.pages }

-- The gateway's trace is one of a gateway, its book tells that the one job was delivered, with all its pages, and the machine that is
-- called confirmed just these, in their order.
pub record AreRelayed (gateway : Setup) (writes : Writing) (job : JobValue) (r : Relay) :
    Type 0 where
  pub is_trace : IsTrace gateway writes r.trace
  pub reports : (book_of (both_legs gateway writes r.trace)).reports
      ≡ report_of (first_job job) outcomes.Delivered (length job.pages) ∷ []
  pub pages : pages_on r.answerer ≡ reverse job.pages

abbrev pub GatewaysPassJobs : Type 0
GatewaysPassJobs = (first gateway last : Setup) (writes : Writing) (reads : Reader)
    (job : JobValue) (start many : ℕ) → gateway.asks ≡ false → gateway.restored ≡ []
    → IsWriting writes → IsReader reads → IsJob job → 2 * rounds_of_pages writes job.pages ≤ many
    → start + 40 * many + 1 < 2 ^ 64 → AreRelayed gateway writes job
    (relay_rounds first gateway last writes reads many start (relay_begun first writes job start))

-- And at every moment either nothing is reported, or just that.
abbrev pub ReportsAreOfJobs : Type 0
ReportsAreOfJobs = (first gateway last : Setup)
    (writes : Writing) (reads : Reader) (job : JobValue) (start many : ℕ)
    → gateway.asks ≡ false → gateway.restored ≡ [] → IsWriting writes → IsReader reads
    → IsJob job → start + 40 * (2 * rounds_of_pages writes job.pages + many) + 1 < 2 ^ 64
    → let r : Relay = relay_rounds
    first gateway last writes reads many start (relay_begun first writes job start)
    in ((book_of (both_legs gateway writes r.trace)).reports ≡ []) ⊎ AreRelayed gateway writes job r
