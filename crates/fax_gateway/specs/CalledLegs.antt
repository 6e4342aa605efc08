-- The called leg of a gateway: a job is sent there in a call of our own. What is sent is told over the function that gives
-- the texts of pages.
use Rattle.std.specs.Prelude.{ℕ, Bool, true, false, is_some, List, [], ◌∷◌, Option, Some, None, Result, Ok, Err, if◌then◌else◌}
use Rattle.fax_runcodes.specs.declared.Width.TheVariants.{W1728}
use Rattle.fax_udptl.specs.declared.fault.UdptlFault.{UdptlFault}
use Rattle.fax_udptl.specs.Datagrams.{DatagramValue, datagram_of}
use Rattle.fax_ifp.specs.Pieces.{Piece}
use Rattle.fax_jobs.specs.declared.outcome.Outcome.{Outcome}
use Rattle.fax_jobs.specs.declared.report.Report.{Report}
use Rattle.fax_jobs.specs.Jobs.{JobValue}
use Rattle.fax_jobs.specs.Books.{report_of}
use Rattle.fax_call.specs.Writings.{Writing}
use Rattle.fax_call.specs.Replies.{Packet, written}
use Rattle.fax_call.specs.Calls.{CallerCore, new_calling, not_placed, started, ticked, TickResult, CallEvent, Comes, Ticks, after_events}
use Rattle.fax_call.specs.Delivery.{is_over}
use Rattle.fax_gateway.specs.Setups.{Setup}
use Rattle.fax_gateway.specs.Legs.{new_pieces, decided_by, sent}

-- The last call: its job, the caller before it, when it was started, and whether it was placed; since then the pieces and
-- ticks, the datagrams that arrived and the packets given, the newest first; and whether its end was entered in the book.
pub record CalledLeg : Type 0 where
  pub job : JobValue
  pub before : CallerCore
  pub begun : ℕ
  pub placed : Bool
  pub events : List CallEvent
  pub arrived : List DatagramValue
  pub given : List (List ℕ)
  pub entered : Bool

abbrev pub begun_core : CalledLeg → CallerCore
begun_core l = if l.placed then started l.before l.job l.begun else not_placed l.before l.job

abbrev pub core_of : Writing → CalledLeg → CallerCore
core_of writes l = after_events writes l.job (begun_core l) l.events

-- no job is being sent: there was none, or the end of its call was entered
abbrev pub is_free : Option CalledLeg → Bool
is_free None = true
is_free (Some l) = l.entered

-- the caller as a call leaves it
abbrev pub core_left : Setup → Writing → Option CalledLeg → CallerCore
core_left setup writes None = new_calling setup.pause (record { width = W1728; fine = false })
core_left setup writes (Some l) = core_of writes l

-- the call of a job begins; one that could not be placed is over as it begins
abbrev pub placed_leg : (connected : Bool) → JobValue → CallerCore → ℕ → CalledLeg
placed_leg connected job before now = record {
  job = job;
  before = before;
  begun = now;
  placed = connected;
  events = [];
  arrived = [];
  given = [];
  entered = false;
}

abbrev pub begun_leg : JobValue → CallerCore → ℕ → CalledLeg
begun_leg job before now = placed_leg true job before now

-- what a tick does on the leg
abbrev pub calls : Writing → CalledLeg → ℕ → TickResult
calls writes l now = ticked writes l.job (core_of writes l) now

-- a call that is over has an outcome
abbrev pub outcome_of : CallerCore → Option Outcome
outcome_of core = if is_over core.state then core.outcome else None

abbrev pub packets_given : Option Packet → List (List ℕ) → List (List ℕ)
packets_given None given = given
packets_given (Some packet) given = written packet ∷ given

abbrev pub with_tick : TickResult → ℕ → CalledLeg → CalledLeg
with_tick t now l = record l {
  events = Ticks now ∷ l.events;
  given = packets_given t.given l.given;
  entered = is_some (outcome_of t.core);
}

abbrev pub leg_ticked : Writing → ℕ → CalledLeg → CalledLeg
leg_ticked writes now l = if l.entered then l else with_tick (calls writes l now) now l

-- a datagram comes; one that cannot be read, or that comes when the call is over, brings nothing
abbrev pub comes_to : List Piece → ℕ → List CallEvent → List CallEvent
comes_to [] now events = events
comes_to (piece ∷ more) now events = comes_to more now (Comes piece now ∷ events)

abbrev pub leg_with : Result DatagramValue UdptlFault → ℕ → CalledLeg → CalledLeg
leg_with (Ok d) now l =
    record l { events = comes_to (new_pieces l.arrived d) now l.events; arrived = d ∷ l.arrived }
leg_with (Err fault) now l = l

abbrev pub hears : Writing → List ℕ → ℕ → CalledLeg → CalledLeg
hears writes octets now l =
    if is_over (core_of writes l).state then l else leg_with (datagram_of octets) now l

-- THE ANSWERS. Whether a datagram decides a slot
abbrev pub decided_called : Writing → Option CalledLeg → List ℕ → Bool
decided_called writes None octets = false
decided_called writes (Some l) octets =
    decided_by (is_over (core_of writes l).state) l.arrived (datagram_of octets)

-- the datagram that a tick gives
abbrev pub told_by : Setup → List (List ℕ) → Option Packet → Option (List ℕ)
told_by setup given None = None
told_by setup given (Some packet) = Some (sent setup given (written packet))

abbrev pub told_called : Setup → Writing → Option CalledLeg → ℕ → Option (List ℕ)
told_called setup writes None now = None
told_called setup writes (Some l) now =
    if l.entered then None else told_by setup l.given (calls writes l now).given

-- the outcome of the call that a tick enters, and the report of its job
abbrev pub outcome_told : Writing → Option CalledLeg → ℕ → Option Outcome
outcome_told writes None now = None
outcome_told writes (Some l) now = if l.entered then None else outcome_of (calls writes l now).core

abbrev pub delivered_told : Writing → Option CalledLeg → ℕ → ℕ
delivered_told writes None now = 0
delivered_told writes (Some l) now = (calls writes l now).core.counts.delivered

abbrev pub report_by : CalledLeg → ℕ → Option Outcome → Option Report
report_by l delivered None = None
report_by l delivered (Some outcome) = Some (report_of l.job outcome delivered)

abbrev pub told_report : Writing → Option CalledLeg → ℕ → Option Report
told_report writes None now = None
told_report writes (Some l) now =
    report_by l (delivered_told writes (Some l) now) (outcome_told writes (Some l) now)
