-- What is told of a datagram socket (this project's profile). Lists have the newest first.
use Rattle.std.specs.Prelude.{◌≡◌, List, ◌∷◌, Option, None, Some, ℕ}
use Rattle.std.specs.declared.net.socket_addr.SocketAddr.{SocketAddr}

-- a datagram that was handed over, and where it was to go
pub record SentDatagram : Type 0 where
  pub to : Option SocketAddr
  pub octets : List ℕ

-- where a socket is connected to, and all that it was handed
pub record SocketValue : Type 0 where
  pub to : Option SocketAddr
  pub sent : List SentDatagram

abbrev pub connected : Option SocketAddr → SocketValue → SocketValue
connected to old = record old { to = to }

-- one datagram more was handed over, to go there
abbrev pub handed_to : Option SocketAddr → List ℕ → SocketValue → SocketValue
handed_to to octets old = record old { sent = record { to = to; octets = octets } ∷ old.sent }

-- and where the socket is connected to
abbrev pub handed : List ℕ → SocketValue → SocketValue
handed octets old = handed_to old.to octets old

-- Where there is a peer, and the socket tells where it is connected to, it is to that one.
abbrev pub IsConnected : Option SocketAddr → Option SocketValue → Type 0
IsConnected None told = Unit {0}
IsConnected (Some peer) None = Unit {0}
IsConnected (Some peer) (Some socket) = socket.to ≡ Some peer
