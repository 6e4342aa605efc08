-- The peers of a wire's legs. (This project's profile.)
use Rattle.std.specs.Prelude.{◌≡◌, Bool, true, false, ◌&&◌, ◌||◌, ◌⊎◌, Option, Some, None, is_some, not, option_map, if◌then◌else◌}
use Rattle.std.specs.declared.net.socket_addr.SocketAddr.{SocketAddr}
use Rattle.fax_gateway.specs.declared.leg.Leg.{Leg}
use Rattle.fax_gateway.specs.declared.leg.Leg.TheVariants as legs
use Rattle.fax_wires.specs.declared.repeat.peers.Bounds.{Bounds}
use Rattle.fax_wires.specs.declared.repeat.peers.LegState.{LegState}
use Rattle.fax_wires.specs.declared.repeat.peers.Peer.{Peer}

abbrev pub no_bounds : Bounds
no_bounds = record { redundancy = None; octets = None }

-- The peer of a leg: where its datagrams go; whether that is still to be learned, from the first datagram that comes; whether the
-- line has it for ever; what bounds the datagrams, as the peer was said, and as the call that is on was begun; whether the peer's
-- call was said to be gone; and whether a datagram came in the call that is on.
pub record PeerValue : Type 0 where
  pub address : Option SocketAddr
  pub learns : Bool
  pub is_fixed : Bool
  pub bounds : Bounds
  pub in_call : Bounds
  pub is_gone : Bool
  pub is_heard : Bool

abbrev pub nobody : PeerValue
nobody = record {
  address = None;
  learns = false;
  is_fixed = false;
  bounds = no_bounds;
  in_call = no_bounds;
  is_gone = false;
  is_heard = false;
}

-- this peer was said
abbrev pub said : Peer → PeerValue → PeerValue
said peer old =
    record old { address = peer.address; learns = not (is_some peer.address); bounds = peer.bounds }

-- there is none any more, but where the line has it for ever
abbrev pub cut_off : PeerValue → PeerValue
cut_off old =
    if old.is_fixed then old else record old { address = None; learns = false; bounds = no_bounds }

-- a call begins, which is bounded so
abbrev pub bounded : Bounds → PeerValue → PeerValue
bounded bounds old = record old { in_call = bounds; is_gone = false; is_heard = false }

-- its call was said to be gone
abbrev pub gone : PeerValue → PeerValue
gone old = record old { is_gone = true }

-- a turn begins, and a call is on or not
abbrev pub settled : Bool → PeerValue → PeerValue
settled is_on old = record old { is_gone = is_on && old.is_gone; is_heard = is_on && old.is_heard }

-- a datagram came
abbrev pub heard : PeerValue → PeerValue
heard old = record old { is_heard = true }

-- from one whose address was still to be learned
abbrev pub learned : SocketAddr → PeerValue → PeerValue
learned address old = record old { address = Some address; learns = false; is_heard = true }

-- A PEER STAYS OR IS HEARD: its address stays, but where it is still to be learned, and is. Nothing else changes.
abbrev pub Hears : PeerValue → PeerValue → Type 0
Hears old new = (new ≡ old) ⊎ (new ≡ heard old)
    ⊎ ((old.learns ≡ true) × (address : SocketAddr) × (new ≡ learned address old))

-- of a wire that tells its peers
abbrev pub HearsWhere : Option PeerValue → Option PeerValue → Type 0
HearsWhere None new = new ≡ None
HearsWhere (Some old) None = ⊥
HearsWhere (Some old) (Some new) = Hears old new

-- what is known of it; of a wire that tells none, nothing
abbrev pub state_of : Option PeerValue → LegState
state_of None = record { has_peer = false; is_fixed = false; is_heard = false; is_gone = false }
state_of (Some peer) = record {
  has_peer = is_some peer.address || peer.learns;
  is_fixed = peer.is_fixed;
  is_heard = peer.is_heard;
  is_gone = peer.is_gone;
}

-- ---- of both legs

pub record Peers : Type 0 where
  pub calling : Option PeerValue
  pub called : Option PeerValue

abbrev pub peer_on : Leg → Peers → Option PeerValue
peer_on legs.Calling peers = peers.calling
peer_on legs.Called peers = peers.called

abbrev pub peer_beside : Leg → Peers → Option PeerValue
peer_beside legs.Calling peers = peers.called
peer_beside legs.Called peers = peers.calling

-- those of a wire, where it tells them
abbrev pub peers_of : {W : Type 0} → (Leg → W → Option PeerValue) → W → Peers
peers_of peer wire = record { calling = peer legs.Calling wire; called = peer legs.Called wire }

-- a wire that tells none
abbrev pub not_told : Peers
not_told = record { calling = None; called = None }

-- that of one leg changes so
abbrev pub change_on : Leg → (PeerValue → PeerValue) → Peers → Peers
change_on legs.Calling change peers = record peers { calling = option_map change peers.calling }
change_on legs.Called change peers = record peers { called = option_map change peers.called }

-- THE PEER OF A LEG STAYS OR IS HEARD; that of the other one stays.
pub record HearsOn (at : Leg) (old new : Peers) : Type 0 where
  pub hears : HearsWhere (peer_on at old) (peer_on at new)
  pub beside : peer_beside at new ≡ peer_beside at old
