-- What is told of a leg, and of a wire of two (this project's profile).
use Rattle.std.specs.Prelude.{◌≡◌, ℕ, Bool, true, false, List, take, Option, None, Some, Result, Ok, Err, option_map, unwrap_or}
use Rattle.std.specs.declared.net.socket_addr.SocketAddr.{SocketAddr}
use Rattle.fax_gateway.specs.declared.leg.Leg.{Leg}
use Rattle.fax_gateway.specs.declared.leg.Leg.TheVariants as legs
use Rattle.fax_wires.specs.repeat.Peers.{Hears, PeerValue, heard, learned, no_bounds, nobody}
use Rattle.fax_wires.specs.declared.repeat.peers.Peer.{Peer}
use Rattle.fax_legs.specs.Bounding.{sent_as}
use Rattle.fax_legs.specs.Counts.{no_counts, one_handed, one_not_received, one_received, one_unsent}
use Rattle.fax_legs.specs.Handing.{handed_over, may_have, nothing_handed, with_at_most}
use Rattle.fax_legs.specs.HangUps.{due_again, is_over, newest_after}
use Rattle.fax_legs.specs.Sockets.{SentDatagram, SocketValue, connected, handed_to}
use Rattle.fax_legs.specs.declared.bounding.Limits.{Limits}
use Rattle.fax_legs.specs.declared.handing.Handed.{Handed}
use Rattle.fax_legs.specs.declared.hang_up.PeerCall.{PeerCall}
use Rattle.fax_legs.specs.declared.hang_up.Standing.TheVariants as standings
use Rattle.fax_legs.specs.declared.leg_peer.LegPeer.{LegPeer}
use Rattle.fax_legs.specs.declared.leg_socket.LegCounts.{LegCounts}

-- the peer of a leg
abbrev pub peer_of : LegPeer → PeerValue
peer_of leg =
    record {
      address = leg.address;
      learns = leg.learns;
      is_fixed = leg.is_fixed;
      bounds = leg.bounds;
      in_call = leg.in_call;
      is_gone = is_over leg.call.standing;
      is_heard = leg.is_heard;
    }

-- the line has it for ever
abbrev pub fixed : PeerValue → PeerValue
fixed old = record old { is_fixed = true }

-- one at this address
abbrev pub at_address : SocketAddr → Peer
at_address address = record { address = Some address; bounds = no_bounds }

-- of the peer's call nothing is known; it is gone; one more datagram of it came
abbrev pub no_call : PeerCall
no_call = record { newest = None; standing = standings.There }

abbrev pub gone_call : PeerCall → PeerCall
gone_call old = record old { standing = standings.Gone }

abbrev pub heard_call : List ℕ → PeerCall → PeerCall
heard_call octets old = record old { newest = newest_after old.newest octets }

-- A turn begins. Where a call is on, a goodbye that was handed out is handed out once more; else all is forgotten.
abbrev pub call_settled : Bool → PeerCall → PeerCall
call_settled true old = record old { standing = due_again old.standing }
call_settled false old = no_call

-- what was said of a call, and else of its peer
abbrev pub first_said : Option ℕ → Option ℕ → Option ℕ
first_said (Some said) other = Some said
first_said None other = other

-- A leg: its peer, and that one's part in the call that is on; what it was handed over in that call; how many packets before its own a
-- datagram of its line has, where nothing else is said; what is counted; and what its socket tells.
pub record LegValue : Type 0 where
  pub peer : PeerValue
  pub call : PeerCall
  pub handed : Handed
  pub redundancy : ℕ
  pub counts : LegCounts
  pub socket : Option SocketValue

abbrev pub new_leg : ℕ → Option SocketValue → LegValue
new_leg redundancy socket = record {
  peer = nobody;
  call = no_call;
  handed = nothing_handed;
  redundancy = redundancy;
  counts = no_counts;
  socket = socket;
}

-- what bounds its datagrams: what was said of the call, else of the peer, else what its line has
abbrev pub limits_of : ℕ → PeerValue → Limits
limits_of redundancy peer =
    record {
      redundancy = unwrap_or (first_said peer.in_call.redundancy peer.bounds.redundancy) redundancy;
      octets = first_said peer.in_call.octets peer.bounds.octets;
    }

-- Of a datagram that is handed over, to be sent to the peer, these packets before its own may go; or not its own either, and none is sent.
abbrev pub sent_to : SocketAddr → List ℕ → Bool → Option ℕ → LegValue → LegValue
sent_to peer octets is_sent None old = record old { counts = one_unsent old.counts }
sent_to peer octets is_sent (Some before) old =
    record old {
      counts = one_handed is_sent old.counts;
      socket = option_map (handed_to (Some peer)
          (sent_as (with_at_most before (limits_of old.redundancy old.peer)) octets)) old.socket;
    }

-- it is noted, while there is a peer or not
abbrev pub hands : Bool → List ℕ → LegValue → LegValue
hands has_peer octets old = record old { handed = handed_over has_peer octets old.handed }

-- A DATAGRAM IS HANDED OVER, to be sent: ONE is handed to the socket, to go to the peer, as the bounds have it, with NO PACKET from when
-- there was no peer; or NONE, where there is none, or was none when its own packet was handed over.
abbrev pub sent_by : List ℕ → Bool → Option SocketAddr → LegValue → LegValue
sent_by octets is_sent None old = hands false octets (record old { counts = one_unsent old.counts })
sent_by octets is_sent (Some peer) old =
    hands true octets (sent_to peer octets is_sent (may_have old.handed octets) old)

-- a datagram came from the peer, or from one that is learned by it
abbrev pub heard_by : List ℕ → LegValue → LegValue
heard_by octets old = record old {
  peer = heard old.peer;
  call = heard_call octets old.call;
  counts = one_received old.counts;
}

abbrev pub learned_by : SocketAddr → List ℕ → LegValue → LegValue
learned_by address octets old =
    record old {
      peer = learned address old.peer;
      call = heard_call octets old.call;
      counts = one_received old.counts;
      socket = option_map (connected (Some address)) old.socket;
    }

abbrev pub HearsFrom : Option SocketAddr → List ℕ → LegValue → LegValue → Type 0
HearsFrom (Some peer) octets old new = new ≡ heard_by octets old
HearsFrom None octets old new =
    (old.peer.learns ≡ true) × (address : SocketAddr) × (new ≡ learned_by address octets old)

-- what the system has of it: a datagram in the front of the buffer, nothing, or a fault
abbrev pub HearsSystem : {E : Type 0} → List ℕ → Result (Option ℕ) E → LegValue → LegValue → Type 0
HearsSystem buffer (Ok (Some count)) old new =
    HearsFrom old.peer.address (take count buffer) old new
HearsSystem buffer (Ok None) old new = new ≡ old
HearsSystem buffer (Err fault) old new = new ≡ record old { counts = one_not_received old.counts }

-- all that was handed to a socket
abbrev pub all_sent : Option SocketValue → Option (List SentDatagram)
all_sent None = None
all_sent (Some socket) = Some socket.sent

-- BY A RECEIVE a leg's peer stays, or is heard, and NOTHING IS SENT.
pub record Receives (old new : LegValue) : Type 0 where
  pub hears : Hears old.peer new.peer
  pub handed : new.handed ≡ old.handed
  pub redundancy : new.redundancy ≡ old.redundancy
  pub sent : all_sent new.socket ≡ all_sent old.socket

-- ---- of both legs

-- both, and how many receives and sends failed
pub record UdpValue : Type 0 where
  pub calling : LegValue
  pub called : LegValue
  pub failures : ℕ

abbrev pub leg_on : Leg → UdpValue → LegValue
leg_on legs.Calling wire = wire.calling
leg_on legs.Called wire = wire.called

-- the other leg
abbrev pub other_leg : Leg → UdpValue → LegValue
other_leg legs.Calling wire = wire.called
other_leg legs.Called wire = wire.calling

-- A receive or a send on a leg leaves the other one as it was.
pub record ReceivesOn (at : Leg) (old new : UdpValue) : Type 0 where
  pub leg : Receives (leg_on at old) (leg_on at new)
  pub beside : other_leg at new ≡ other_leg at old

pub record SendsOn (at : Leg) (octets : List ℕ) (is_sent : Bool) (old new : UdpValue) : Type 0 where
  pub leg : leg_on at new ≡ sent_by octets is_sent (leg_on at old).peer.address (leg_on at old)
  pub beside : other_leg at new ≡ other_leg at old
