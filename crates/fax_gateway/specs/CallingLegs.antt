-- The calling leg of a gateway: who calls is answered there. Nothing of the called leg is named here.
use Rattle.std.specs.Prelude.{ℕ, Bool, true, false, List, [], ◌∷◌, Option, Some, None, Result, Ok, Err, if◌then◌else◌}
use Rattle.fax_udptl.specs.declared.fault.UdptlFault.{UdptlFault}
use Rattle.fax_udptl.specs.Datagrams.{DatagramValue, datagram_of}
use Rattle.fax_answer.specs.declared.state.State.{State}
use Rattle.fax_answer.specs.declared.state.State.TheVariants.{Idle}
use Rattle.fax_answer.specs.Table.{Reading, Question}
use Rattle.fax_answer.specs.Replies.{ConfirmedPage, WaitingPacket}
use Rattle.fax_answer.specs.Calls.{AnswererCore, new_answering, rung, ticked, TickResult, first_asked, CallEvent, Ticks, after_events}
use Rattle.fax_answer.specs.Readings.{comes_all}
use Rattle.fax_gateway.specs.Setups.{Setup}
use Rattle.fax_gateway.specs.Events.{Event, Ring, FromCalling, Tick, clock}
use Rattle.fax_gateway.specs.Legs.{new_pieces, decided_by, sent}

-- The last call: its number, the answerer before it, when it was rung, and since then the pieces and ticks, the
-- datagrams that arrived and the packets given; the newest first.
pub record CallingLeg : Type 0 where
  pub number : ℕ
  pub before : AnswererCore
  pub begun : ℕ
  pub events : List CallEvent
  pub arrived : List DatagramValue
  pub given : List (List ℕ)

abbrev pub core_of : CallingLeg → AnswererCore
core_of l = after_events (rung l.before l.begun) l.events

abbrev pub is_idle : State → Bool
is_idle Idle = true
is_idle state = false

-- no call is on
abbrev pub idle_after : Option CallingLeg → Bool
idle_after None = true
idle_after (Some l) = is_idle (core_of l).state

-- what a tick does on the leg
abbrev pub answers : CallingLeg → ℕ → TickResult
answers l now = ticked (core_of l) now

abbrev pub rung_leg : AnswererCore → ℕ → ℕ → CallingLeg
rung_leg before now number =
    record { number = number; before = before; begun = now; events = []; arrived = []; given = [] }

abbrev pub leg_with : CallingLeg → ℕ → Reading → Result DatagramValue UdptlFault → CallingLeg
leg_with l now read (Ok d) = record l {
  events = comes_all (new_pieces l.arrived d) now read l.events;
  arrived = d ∷ l.arrived;
}
leg_with l now read (Err fault) = l

abbrev pub packets_with : Option WaitingPacket → List (List ℕ) → List (List ℕ)
packets_with None given = given
packets_with (Some w) given = w.packet ∷ given

abbrev pub leg_ticked : CallingLeg → ℕ → CallingLeg
leg_ticked l now =
    record l { events = Ticks now ∷ l.events; given = packets_with (answers l now).given l.given }

-- A ring begins a call. A datagram that cannot be read, or that comes while no call is on, brings nothing.
abbrev pub calling_after : Setup → Option CallingLeg → ℕ → Event → Option CallingLeg
calling_after setup None now (Ring at number) =
    Some (rung_leg (new_answering setup.pause) now number)
calling_after setup (Some l) now (Ring at number) = Some (rung_leg (core_of l) now number)
calling_after setup (Some l) now (FromCalling octets at decided read) =
    if is_idle (core_of l).state then Some l else Some (leg_with l now read (datagram_of octets))
calling_after setup (Some l) now (Tick at given) = Some (leg_ticked l now)
calling_after setup leg now e = leg

-- the leg after a trace, none before the first ring
abbrev pub calling_leg : Setup → List Event → Option CallingLeg
calling_leg setup [] = None
calling_leg setup (e ∷ earlier) =
    calling_after setup (calling_leg setup earlier) (clock (e ∷ earlier)) e

-- THE ANSWERS. Whether a datagram decides a slot
abbrev pub decided_calling : Option CallingLeg → List ℕ → Bool
decided_calling None octets = false
decided_calling (Some l) octets =
    decided_by (is_idle (core_of l).state) l.arrived (datagram_of octets)

-- what it asks
abbrev pub asked_by : CallingLeg → ℕ → Result DatagramValue UdptlFault → Option Question
asked_by l now (Ok d) = first_asked (core_of l) (new_pieces l.arrived d) now
asked_by l now (Err fault) = None

abbrev pub question : Option CallingLeg → ℕ → List ℕ → Option Question
question None now octets = None
question (Some l) now octets =
    if is_idle (core_of l).state then None else asked_by l now (datagram_of octets)

-- the datagram that a tick gives, and the page that it confirms
abbrev pub told_by : Setup → List (List ℕ) → Option WaitingPacket → Option (List ℕ)
told_by setup given None = None
told_by setup given (Some w) = Some (sent setup given w.packet)

abbrev pub told_calling : Setup → Option CallingLeg → ℕ → Option (List ℕ)
told_calling setup None now = None
told_calling setup (Some l) now = told_by setup l.given (answers l now).given

abbrev pub confirmed_by : Option WaitingPacket → Option ConfirmedPage
confirmed_by None = None
confirmed_by (Some w) = w.confirmed
