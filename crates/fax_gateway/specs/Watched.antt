-- WHAT IS TOLD on each leg while it goes on: of each piece that a datagram brings what the table of the leg's machine made of it,
-- and of a tick which timer acts. (This project's profile.)
use Rattle.std.specs.Prelude.{ℕ, max, Bool, List, [], Option, Some, None, Result, Ok, Err, if◌then◌else◌}
use Rattle.fax_udptl.specs.declared.fault.UdptlFault.{UdptlFault}
use Rattle.fax_udptl.specs.Datagrams.{DatagramValue, datagram_of}
use Rattle.fax_answer.specs.declared.state.State as answer_states
use Rattle.fax_answer.specs.declared.state.State.TheVariants as answer_state
use Rattle.fax_answer.specs.declared.timers.ActingTimer as answer_timers
use Rattle.fax_answer.specs.Table.{Reading}
use Rattle.fax_answer.specs.Watching as answer
use Rattle.fax_call.specs.declared.acting.ActingTimer as call_timers
use Rattle.fax_call.specs.declared.state.State as call_states
use Rattle.fax_call.specs.declared.state.State.TheVariants as call_state
use Rattle.fax_call.specs.Delivery.{is_over}
use Rattle.fax_call.specs.Watching as call
use Rattle.fax_call.specs.Writings.{Writing}
use Rattle.fax_gateway.specs.Setups.{Setup}
use Rattle.fax_gateway.specs.Events.{Event, clock}
use Rattle.fax_gateway.specs.Legs.{new_pieces}
use Rattle.fax_gateway.specs.CallingLegs.{CallingLeg, calling_leg, is_idle}
use Rattle.fax_gateway.specs.CallingLegs as calling_legs
use Rattle.fax_gateway.specs.CalledLegs.{CalledLeg}
use Rattle.fax_gateway.specs.CalledLegs as called_legs
use Rattle.fax_gateway.specs.Reached.{CallingValue, GatewayValue, HearsCalling, HearsFrom}

-- THE CALLING LEG: of each piece of a datagram, by its reading. Nothing is told of one that comes while no call is on, and of
-- octets that are no datagram.
abbrev pub calling_tellings_of : CallingLeg
    → ℕ → Reading → Result DatagramValue UdptlFault → List answer.Telling
calling_tellings_of l now read (Ok d) =
    answer.tellings read (calling_legs.core_of l) (new_pieces l.arrived d) now
calling_tellings_of l now read (Err fault) = []

abbrev pub calling_tellings : Option CallingLeg → ℕ → List ℕ → Reading → List answer.Telling
calling_tellings None now octets read = []
calling_tellings (Some l) now octets read = if is_idle (calling_legs.core_of l).state
    then [] else calling_tellings_of l now read (datagram_of octets)

-- a datagram came, by one reading that is right, and this holds of what was told of it
pub record HearsCallingTold (Tells : List answer.Telling → Type 0) (setup : Setup)
    (leg : Option CallingLeg) (now : ℕ) (octets : List ℕ) (endpoint : CallingValue) : Type 0 where
  pub hears : HearsCalling setup leg now octets endpoint
  pub told : Tells (calling_tellings leg now octets hears.read)

pub record HearsFromTold (Tells : List answer.Telling → Type 0) (setup : Setup) (writes : Writing)
    (trace : List Event) (octets : List ℕ) (now : ℕ) (decided : Bool) (gateway : GatewayValue) :
    Type 0 where
  pub hears : HearsFrom setup writes trace octets now decided gateway
  pub told :
      Tells (calling_tellings (calling_leg setup trace) (max now (clock trace)) octets hears.read)

-- the state before, and the timer that acts in a tick
abbrev pub calling_state : Option CallingLeg → answer_states.State
calling_state None = answer_state.Idle
calling_state (Some l) = (calling_legs.core_of l).state

abbrev pub calling_acting : Option CallingLeg → ℕ → Option answer_timers.ActingTimer
calling_acting None now = None
calling_acting (Some l) now = answer.acting (calling_legs.core_of l) now

-- THE CALLED LEG: the same
abbrev pub called_tellings_of : Writing
    → CalledLeg → ℕ → Result DatagramValue UdptlFault → List call.Telling
called_tellings_of writes l now (Ok d) =
    call.tellings (called_legs.core_of writes l) (new_pieces l.arrived d) now
called_tellings_of writes l now (Err fault) = []

abbrev pub called_tellings : Writing → Option CalledLeg → ℕ → List ℕ → List call.Telling
called_tellings writes None now octets = []
called_tellings writes (Some l) now octets = if is_over (called_legs.core_of writes l).state
    then [] else called_tellings_of writes l now (datagram_of octets)

abbrev pub called_state : Writing → Option CalledLeg → call_states.State
called_state writes None = call_state.Idle
called_state writes (Some l) = (called_legs.core_of writes l).state

abbrev pub called_acting : Writing → Option CalledLeg → ℕ → Option call_timers.ActingTimer
called_acting writes None now = None
called_acting writes (Some l) now = call.acting (called_legs.core_of writes l) now
