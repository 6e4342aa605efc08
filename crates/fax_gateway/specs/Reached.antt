-- What a gateway keeps that a trace has led to.
use Rattle.std.specs.Prelude.{◌≡◌, ℕ, ◌+◌, ◌<◌, ◌≤◌, min, Bool, true, false, List, [], ◌∷◌, Option, Some, None, if◌then◌else◌}
use Rattle.fax_udptl.specs.Datagrams.{DatagramValue}
use Rattle.fax_udptl.specs.Sending.{HasSent}
use Rattle.fax_udptl.specs.Slots.{newest_slots}
use Rattle.fax_udptl.specs.Taking.{IsAfter}
use Rattle.fax_jobs.specs.declared.outcome.Outcome.{Outcome}
use Rattle.fax_jobs.specs.declared.report.Report.{Report}
use Rattle.fax_jobs.specs.Jobs.{JobValue}
use Rattle.fax_jobs.specs.Books.{Book, confirmed, closed, ended, report_of}
use Rattle.fax_answer.specs.declared.refusal.Refusal.{Refusal}
use Rattle.fax_answer.specs.declared.step.Step.{Step}
use Rattle.fax_answer.specs.Table.{Reading}
use Rattle.fax_answer.specs.Replies.{ConfirmedPage}
use Rattle.fax_answer.specs.Calls.{AnswererCore, new_answering}
use Rattle.fax_answer.specs.Confirmation.{IsRead}
use Rattle.fax_answer.specs.Reached as answer
use Rattle.fax_answer.specs.Refusals.{TellsWhy}
use Rattle.fax_answer.specs.Shown.{confirmed_shown}
use Rattle.fax_call.specs.declared.procedure.Procedure.{Procedure}
use Rattle.fax_call.specs.declared.state.State.TheVariants.{Idle}
use Rattle.fax_call.specs.Writings.{Writing}
use Rattle.fax_call.specs.Calls.{new_calling}
use Rattle.fax_call.specs.Delivery.{is_over}
use Rattle.fax_call.specs.Following.{IsJobOfCall}
use Rattle.fax_call.specs.Reached as call
use Rattle.fax_gateway.specs.Setups.{HasSettings, Setup}
use Rattle.fax_gateway.specs.declared.settings.Settings.{Settings}
use Rattle.fax_gateway.specs.declared.endpoint.Endpoint.{Endpoint}
use Rattle.fax_gateway.specs.declared.caller_endpoint.CallerEndpoint.{CallerEndpoint}
use Rattle.fax_gateway.specs.declared.given.Given as shown
use Rattle.fax_gateway.specs.Events.{Event, FromCalling, Given, clock, rings}
use Rattle.fax_gateway.specs.Legs.{sent}
use Rattle.fax_gateway.specs.CallingLegs as calling_legs
use Rattle.fax_gateway.specs.CallingLegs.{CallingLeg, calling_leg, calling_after, question, told_calling}
use Rattle.fax_gateway.specs.CalledLegs as called_legs
use Rattle.fax_gateway.specs.CalledLegs.{CalledLeg}
use Rattle.fax_gateway.specs.BothLegs.{book_of, both_legs}
use Rattle.fax_gateway.specs.Traces.{IsTrace}
use Rattle.fax_gateway.specs.Wires.{greatest_count}

-- what a tick gives
abbrev pub given_shown : shown.Given → Given
given_shown given =
    record { on_calling = given.calling; on_called = given.called; report = given.report }

-- A LEG in a call: these datagrams came, and these packets were given, the newest first
pub record IsLeg (setup : Setup)
    (arrived : List DatagramValue) (given : List (List ℕ)) (leg : Endpoint) : Type 0 where
  pub receiver : IsAfter arrived leg.receiver
  pub sender : HasSent setup.redundancy given leg.sender

-- a packet, where there is one, as the datagram after those given, and the packets given after it
abbrev pub sent_if : Setup → List (List ℕ) → Option (List ℕ) → Option (List ℕ)
sent_if setup given None = None
sent_if setup given (Some packet) = Some (sent setup given packet)

abbrev pub given_with : Option (List ℕ) → List (List ℕ) → List (List ℕ)
given_with None given = given
given_with (Some packet) given = packet ∷ given

-- THE CALLING LEG: the number of the last call, what is kept of it, and its leg
pub record CallingValue : Type 0 where
  pub number : ℕ
  pub kept : answer.Rep
  pub leg : Endpoint

-- the core, the datagrams and the packets of the last call; before the first they are new
abbrev pub answering_of : Setup → Option CallingLeg → AnswererCore
answering_of setup None = new_answering setup.pause
answering_of setup (Some l) = calling_legs.core_of l

abbrev pub arrived_on : Option CallingLeg → List DatagramValue
arrived_on None = []
arrived_on (Some l) = l.arrived

abbrev pub given_on : Option CallingLeg → List (List ℕ)
given_on None = []
given_on (Some l) = l.given

abbrev pub HasNumber : Option CallingLeg → ℕ → Type 0
HasNumber None number = Unit {0}
HasNumber (Some l) number = l.number ≡ number

-- the last call led to it
pub record IsCalling (setup : Setup) (leg : Option CallingLeg) (endpoint : CallingValue) :
    Type 0 where
  pub number : HasNumber leg endpoint.number
  pub core : answer.IsReached (newest_slots (arrived_on leg)) (answering_of setup leg) endpoint.kept
  pub on_leg : IsLeg setup (arrived_on leg) (given_on leg) endpoint.leg

-- a datagram came, by one reading that is right
abbrev pub heard_on : Setup → Option CallingLeg → ℕ → List ℕ → Reading → Option CallingLeg
heard_on setup leg now octets read = calling_after setup leg now (FromCalling octets now true read)

pub record HearsCalling (setup : Setup)
    (leg : Option CallingLeg) (now : ℕ) (octets : List ℕ) (endpoint : CallingValue) : Type 0 where
  pub read : Reading
  pub right : IsRead (question leg now octets) read
  pub calling : IsCalling setup (heard_on setup leg now octets read) endpoint

-- a tick on the leg: the page that it confirms, and whether the call ends
abbrev pub confirmed_on : Option CallingLeg → ℕ → Option ConfirmedPage
confirmed_on None now = None
confirmed_on (Some l) now = calling_legs.confirmed_by (calling_legs.answers l now).given

abbrev pub ended_on : Option CallingLeg → ℕ → Bool
ended_on None now = false
ended_on (Some l) now = (calling_legs.answers l now).ended

abbrev pub ticked_on : Option CallingLeg → ℕ → Option CallingLeg
ticked_on None now = None
ticked_on (Some l) now = Some (calling_legs.leg_ticked l now)

-- why the page is refused where it gives the RTN frame
abbrev pub TellsWhyOn : Option CallingLeg → ℕ → Option Refusal → Type 0
TellsWhyOn None now why = why ≡ None
TellsWhyOn (Some l) now why = TellsWhy (calling_legs.answers l now) why

-- what is told of it
pub record TellsTick {S : Type 0} (setup : Setup)
    (leg : Option CallingLeg) (now : ℕ) (step : Step S) : Type 0 where
  pub packet : step.packet ≡ told_calling setup leg now
  pub confirmed : confirmed_shown step.confirmed ≡ confirmed_on leg now
  pub refused : TellsWhyOn leg now step.refused
  pub ends : step.ended ≡ ended_on leg now

-- THE CALLED LEG, in the call of a job; before the first one no call was on
abbrev pub IsCaller : Setup → Writing → Option CalledLeg → call.Rep → Type 0
IsCaller setup writes None kept = (job : JobValue)
    → call.IsReached writes job [] (new_calling setup.pause kept.procedure.format) kept
IsCaller setup writes (Some l) kept =
    call.IsReached writes l.job (newest_slots l.arrived) (called_legs.core_of writes l) kept

abbrev pub IsCalledLeg : Setup → Option CalledLeg → Endpoint → Type 0
IsCalledLeg setup None leg = Unit {0}
IsCalledLeg setup (Some l) leg = IsLeg setup l.arrived l.given leg

-- the call of the last job led to it
pub record IsCalled (setup : Setup)
    (writes : Writing) (leg : Option CalledLeg) (endpoint : CallerEndpoint) : Type 0 where
  pub core : IsCaller setup writes leg endpoint.caller
  pub on_leg : IsCalledLeg setup leg endpoint.leg

-- the job that is being sent is the one of the call, and where none is no call is on
abbrev pub IsServed : Option JobValue → Procedure → Type 0
IsServed None procedure = procedure.state ≡ Idle
IsServed (Some job) procedure = IsJobOfCall procedure job

-- a tick in the call of a job: what it leaves and gives
pub record TicksOn (setup : Setup) (writes : Writing)
    (l : CalledLeg) (now : ℕ) (given : Option (List ℕ)) (endpoint : CallerEndpoint) : Type 0 where
  pub called : IsCalled setup
      writes (Some (called_legs.with_tick (called_legs.calls writes l now) now l)) endpoint
  pub told : given ≡ called_legs.told_by setup l.given (called_legs.calls writes l now).given

-- where there is a job its call begins, and the tick goes on in it
abbrev pub Begins : Setup → Writing → Option CalledLeg
    → Option JobValue → (now : ℕ) → (given : Option (List ℕ)) → (old new : CallerEndpoint) → Type 0
Begins setup writes leg None now given old new = (given ≡ None) × (new ≡ old)
Begins setup writes leg (Some job) now given old new = TicksOn setup
    writes (called_legs.begun_leg job (called_legs.core_left setup writes leg) now) now given new

-- the outcome of a call that is over, and the report of its job
abbrev pub outcome_of_rep : Procedure → Option Outcome
outcome_of_rep procedure = if is_over procedure.state then procedure.outcome else None

abbrev pub report_if : Option JobValue → Option Outcome → ℕ → Option Report
report_if None outcome delivered = None
report_if (Some job) None delivered = None
report_if (Some job) (Some outcome) delivered = Some (report_of job outcome delivered)

abbrev pub ended_with : Option Outcome → ℕ → Book → Book
ended_with None delivered book = book
ended_with (Some outcome) delivered book = ended book outcome delivered

abbrev pub ended_if : Option JobValue → Option Outcome → ℕ → Book → Book
ended_if None outcome delivered book = book
ended_if (Some job) outcome delivered book = ended_with outcome delivered book

-- THE BOOK in a tick, as it hears of the calling leg
abbrev pub confirmed_if : ℕ → Option ConfirmedPage → Book → Book
confirmed_if number None book = book
confirmed_if number (Some c) book = confirmed book number c.page c.closes

abbrev pub closed_if : Bool → Book → Book
closed_if true book = closed book
closed_if false book = book

-- THE GATEWAY: its settings, its clock, how many calls were rung, both legs, the book, for how many pages this has room, and how
-- many datagrams and ticks it refused for want of memory
pub record GatewayValue : Type 0 where
  pub settings : Settings
  pub clock : ℕ
  pub rings : ℕ
  pub calling : CallingValue
  pub called : CallerEndpoint
  pub book : Book
  pub spare : ℕ
  pub refusals : ℕ

-- the trace led to it, where this function gives the texts of pages
pub record IsReachedBy (setup : Setup)
    (writes : Writing) (trace : List Event) (gateway : GatewayValue) : Type 0 where
  pub is_trace : IsTrace setup writes trace
  pub set : HasSettings setup gateway.settings
  pub at : gateway.clock ≡ clock trace
  pub rung : gateway.rings ≡ rings trace
  pub calling : IsCalling setup (calling_leg setup trace) gateway.calling
  pub called : IsCalled setup writes (both_legs setup writes trace).leg gateway.called
  pub book : gateway.book ≡ book_of (both_legs setup writes trace)

-- one more is refused, or none, of which the count stops at the greatest; and where one is, nothing else happens
abbrev pub refusals_if : (refused : Bool) → ℕ → ℕ
refusals_if true count = min (count + 1) greatest_count
refusals_if false count = count

abbrev pub refusing : GatewayValue → GatewayValue
refusing g = record g { refusals = refusals_if true g.refusals }

-- one more datagram of the calling leg led to it, by one reading that is right
pub record HearsFrom (setup : Setup) (writes : Writing) (trace : List Event)
    (octets : List ℕ) (now : ℕ) (decided : Bool) (gateway : GatewayValue) : Type 0 where
  pub read : Reading
  pub reached : IsReachedBy setup writes (FromCalling octets now decided read ∷ trace) gateway

-- MEMORY that is reserved before a tick: for the packet of each leg and its datagram, for a page, and for the first packet
-- of a call
abbrev pub most_octets : ℕ
most_octets = 100

-- how many octets a packet of the answerer has at most
abbrev pub most_answered : ℕ
most_answered = 12

pub record CallingHasRoom (endpoint : CallingValue) : Type 0 where
  pub packet : 1 ≤ endpoint.kept.spare
  pub datagram : most_answered < endpoint.leg.sender.spare

pub record CalledHasRoom (endpoint : CallerEndpoint) : Type 0 where
  pub packet : 1 ≤ endpoint.caller.spare
  pub datagram : most_octets < endpoint.leg.sender.spare

pub record HasRoom (gateway : GatewayValue) : Type 0 where
  pub calling : CallingHasRoom gateway.calling
  pub called : CalledHasRoom gateway.called
  pub page : 1 ≤ gateway.spare

-- a gateway without what is reserved: all that is told of one
abbrev pub leg_alone : Endpoint → Endpoint
leg_alone leg = record { receiver = leg.receiver; sender = record leg.sender { spare = 0 } }

abbrev pub calling_alone : CallingValue → CallingValue
calling_alone endpoint = record {
  number = endpoint.number;
  kept = record endpoint.kept {
    spare = 0;
  };
  leg = leg_alone endpoint.leg;
}

abbrev pub called_alone : CallerEndpoint → CallerEndpoint
called_alone endpoint =
    record { caller = record endpoint.caller { spare = 0 }; leg = leg_alone endpoint.leg }

abbrev pub alone : GatewayValue → GatewayValue
alone g = record {
  settings = g.settings;
  clock = g.clock;
  rings = g.rings;
  calling = calling_alone g.calling;
  called = called_alone g.called;
  book = g.book;
  spare = 0;
  refusals = g.refusals;
}
