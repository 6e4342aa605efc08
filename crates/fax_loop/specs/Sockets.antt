-- What a wire makes of its two sockets. (This project's profile.) Lists have the newest first.
use Rattle.std.specs.Prelude.{◌≡◌, ℕ, List, [], ◌∷◌}
use Rattle.fax_gateway.specs.declared.leg.Leg.{Leg}
use Rattle.fax_gateway.specs.declared.leg.Leg.TheVariants as legs
use Rattle.fax_gateway.specs.Wires.{Grows}
use Rattle.fax_loop.specs.Traffic.{SocketTraffic}
use Rattle.fax_loop.specs.declared.udp_wire.UdpWire.{UdpWire}

-- the one of two that stands on a leg of a gateway
abbrev at_leg : {A : Type 0} → Leg → A → A → A
at_leg legs.Calling calling called = calling
at_leg legs.Called calling called = called

-- the socket of a leg, and that of the other one
abbrev pub socket_of : {S : Type 0} → Leg → UdpWire S → S
socket_of leg wire = at_leg leg wire.calling wire.called

abbrev pub other_socket : {S : Type 0} → Leg → UdpWire S → S
other_socket leg wire = at_leg leg wire.called wire.calling

-- By a receive on a leg nothing is sent there, and the other leg's socket is left as it was.
pub record Receives {S : Type 0} (told : S → SocketTraffic) (leg : Leg) (old new : UdpWire S) :
    Type 0 where
  pub sent : Grows [] (told (socket_of leg old)).sent (told (socket_of leg new)).sent
  pub beside : other_socket leg new ≡ other_socket leg old

-- By a send on a leg these octets are handed to its socket, nothing is received there, and the other leg's is left as it was.
pub record Hands {S : Type 0} (told : S → SocketTraffic)
    (leg : Leg) (octets : List ℕ) (old new : UdpWire S) : Type 0 where
  pub received : Grows [] (told (socket_of leg old)).received (told (socket_of leg new)).received
  pub sent : Grows (octets ∷ []) (told (socket_of leg old)).sent (told (socket_of leg new)).sent
  pub beside : other_socket leg new ≡ other_socket leg old
