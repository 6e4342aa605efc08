-- What datagrams bring to a call on either leg, and what the call gives.
use Rattle.std.specs.Prelude.{ℕ, Bool, false, not, ◌&&◌, nat_lt, List, ◌∷◌, length, drop, Result, Ok, Err}
use Rattle.fax_udptl.specs.declared.fault.UdptlFault.{UdptlFault}
use Rattle.fax_udptl.specs.Datagrams.{DatagramValue, written_datagram}
use Rattle.fax_udptl.specs.Sending.{datagram_for}
use Rattle.fax_udptl.specs.Slots.{newest_slots}
use Rattle.fax_ifp.specs.Pieces.{Piece, pieces}
use Rattle.fax_gateway.specs.Setups.{Setup}

-- the pieces that a datagram brings, after those that arrived: those of all slots after those of the slots before
unfoldable pub new_pieces : List DatagramValue → DatagramValue → List Piece
new_pieces arrived d =
    drop (length (pieces (newest_slots arrived))) (pieces (newest_slots (d ∷ arrived)))

-- whether it decides a slot
unfoldable pub decides : List DatagramValue → DatagramValue → Bool
decides arrived d = nat_lt (length (newest_slots arrived)) (length (newest_slots (d ∷ arrived)))

abbrev pub decided_by : (idle : Bool) → List DatagramValue → Result DatagramValue UdptlFault → Bool
decided_by idle arrived (Ok d) = not idle && decides arrived d
decided_by idle arrived (Err fault) = false

-- the datagram of a packet that is given after these, with as many of them as the setup says
abbrev pub sent : Setup → List (List ℕ) → List ℕ → List ℕ
sent setup given packet = written_datagram (datagram_for setup.redundancy given packet)
