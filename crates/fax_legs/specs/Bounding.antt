-- How datagrams are bounded (this project's profile).
use Rattle.std.specs.Prelude.{ℕ, zero, suc, ◌+◌, ◌-◌, nat_le, nat_lt, Bool, true, ◌&&◌, List, [], ◌∷◌, length, take, Option, Some, None, Result, Ok, Err, if◌then◌else◌}
use Rattle.fax_gateway.specs.Wires.{buffer_octets}
use Rattle.fax_wires.specs.repeat.Repeats.{same_octets}
use Rattle.fax_udptl.specs.declared.fault.UdptlFault.{UdptlFault}
use Rattle.fax_udptl.specs.Datagrams.{DatagramValue, datagram_of, written_datagram, written_packet}
use Rattle.fax_legs.specs.declared.bounding.Limits.{Limits}

-- with the first of its secondaries alone, so many: those that are left out are the oldest
abbrev pub fewer : ℕ → DatagramValue → DatagramValue
fewer most d = record d { secondaries = take most d.secondaries }

-- How many of these packets, from the first on, have room in so many octets, where there may be so many.
unfoldable pub fitting : ℕ → ℕ → List (List ℕ) → ℕ
fitting zero room packets = 0
fitting (suc most) room [] = 0
fitting (suc most) room (p ∷ ps) = if nat_le (length (written_packet p)) room
    then suc (fitting most (room - length (written_packet p)) ps) else 0

-- how many octets a datagram has with its own packet alone
abbrev pub own_octets : DatagramValue → ℕ
own_octets d = length (written_packet d.primary) + 4

-- the most octets that it may have; where none is said, as many as it has
abbrev pub most_octets : Option ℕ → ℕ → ℕ
most_octets None count = count
most_octets (Some most) count = most

-- how many secondaries are kept of a datagram of so many octets
abbrev pub kept : Limits → ℕ → DatagramValue → ℕ
kept limits count d =
    fitting limits.redundancy (most_octets limits.octets count - own_octets d) d.secondaries

-- packets that can be written
abbrev pub are_short : List (List ℕ) → Bool
are_short [] = true
are_short (p ∷ ps) = nat_le (length p) 16383 && are_short ps

-- what senders send: packets whose lengths can be written, and a count of one octet
abbrev pub is_sendable : DatagramValue → Bool
is_sendable d = nat_le (length d.primary) 16383
    && (are_short d.secondaries && nat_lt (length d.secondaries) 128)

-- As it is sent, a datagram has no more than its limits allow. Octets that are none, or none as it is written, go as they are.
abbrev pub cut_as : Limits → List ℕ → Result DatagramValue UdptlFault → List ℕ
cut_as limits octets (Err fault) = octets
cut_as limits octets (Ok d) = if is_sendable d && same_octets octets (written_datagram d)
    then written_datagram (fewer (kept limits (length octets) d) d) else octets

-- No datagram of UDP has more octets than its length can say.
abbrev pub sent_as : Limits → List ℕ → List ℕ
sent_as limits octets = if nat_le (length octets) buffer_octets
    then cut_as limits octets (datagram_of octets) else octets
