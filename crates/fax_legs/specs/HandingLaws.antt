-- That a peer who comes late hears nothing old (this project's profile). Lists have the newest first; integers of packets are those of a
-- receiver (`fax_udptl`, Slots).
use Rattle.std.specs.Prelude.{◌≡◌, ◌⊎◌, ℕ, ◌+◌, ◌<◌, ◌≤◌, Bool, is_some, List, [], ◌∷◌, Option, None, Some, Ok, if◌then◌else◌}
use Rattle.std.specs.declared.net.socket_addr.SocketAddr.{SocketAddr}
use Rattle.fax_udptl.specs.Datagrams.{DatagramValue, datagram_of, written_datagram}
use Rattle.fax_udptl.specs.Slots.{greatest, integer_after}
use Rattle.fax_legs.specs.Bounding.{fewer}
use Rattle.fax_legs.specs.BoundingLaws.{IsSendable}
use Rattle.fax_legs.specs.Handing.{handed_over, nothing_handed}
use Rattle.fax_legs.specs.HangUps.{HaveNumbers}
use Rattle.fax_legs.specs.Legs.{LegValue, sent_by}
use Rattle.fax_legs.specs.Sockets.{SocketValue, handed_to}
use Rattle.fax_legs.specs.declared.handing.Handed.{Handed}

-- a datagram that was handed over in a call, while there was a peer or not
pub record HandedDatagram : Type 0 where
  pub has_peer : Bool
  pub datagram : DatagramValue

abbrev pub datagrams : List HandedDatagram → List DatagramValue
datagrams [] = []
datagrams (h ∷ earlier) = h.datagram ∷ datagrams earlier

-- what a leg makes of them
abbrev pub handed_after : List HandedDatagram → Handed
handed_after [] = nothing_handed
handed_after (h ∷ earlier) =
    handed_over h.has_peer (written_datagram h.datagram) (handed_after earlier)

-- THE PEER MISSED ALL UP TO THIS ONE: the greatest that was handed over until, for the last time, there was no peer.
abbrev pub missed : List HandedDatagram → ℕ
missed [] = 0
missed (h ∷ earlier) = if h.has_peer then missed earlier else greatest (datagrams (h ∷ earlier))

-- ONE datagram is put onto the socket, to go to the peer: with the first of the secondaries that it has, and each of its packets, its own
-- and those, comes AFTER what the peer missed.
pub record IsNew (peer : SocketAddr) (d : DatagramValue)
    (missed integer : ℕ) (old : SocketValue) (new : Option SocketValue) : Type 0 where
  pub count : ℕ
  pub put : new ≡ Some (handed_to (Some peer) (written_datagram (fewer count d)) old)
  pub read_as : datagram_of (written_datagram (fewer count d)) ≡ Ok (fewer count d)
  pub after : missed + count < integer

-- or NONE: there is no peer, or its own packet does not come after that
abbrev pub IsNewWhere : Option SocketAddr
    → DatagramValue → ℕ → ℕ → SocketValue → Option SocketValue → Type 0
IsNewWhere None d missed integer old new = new ≡ Some old
IsNewWhere (Some peer) d missed integer old new =
    ((integer ≤ missed) × (new ≡ Some old)) ⊎ IsNew peer d missed integer old new

pub record SendsNew (earlier : List HandedDatagram) (peer : Option SocketAddr)
    (d : DatagramValue) (socket : SocketValue) (new : LegValue) : Type 0 where
  pub handed :
      new.handed ≡ handed_after (record { has_peer = is_some peer; datagram = d } ∷ earlier)
  pub sent :
      IsNewWhere peer d (missed earlier) (integer_after (datagrams earlier) d) socket new.socket

-- NO DATAGRAM THAT GOES TO A PEER HAS A PACKET THAT WAS HANDED OVER WHILE THERE WAS NONE, or before that, whatever was handed over in the
-- call, and whoever its peers were.
abbrev pub NothingOldIsSent : Type 0
NothingOldIsSent = (earlier : List HandedDatagram) (d : DatagramValue)
    (is_sent : Bool) (leg : LegValue) (socket : SocketValue) → HaveNumbers (datagrams earlier)
    → IsSendable d → leg.handed ≡ handed_after earlier → leg.socket ≡ Some socket → SendsNew earlier
    leg.peer.address d socket (sent_by (written_datagram d) is_sent leg.peer.address leg)
