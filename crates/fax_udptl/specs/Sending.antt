-- What a sender is, and what it sends. (ITU-T T.38, UDPTL; how many secondaries there may be is this project's profile.)
-- Lists of packets given to it have the newest first.
use Rattle.std.specs.Prelude.{◌≡◌, ℕ, ◌+◌, ◌-◌, ◌%◌, ◌≤◌, List, take, length, flat_map}
use Rattle.std.specs.List.{AllByRecursion}
use Rattle.fax_udptl.specs.Datagrams.{DatagramValue, written_packet}

-- the most packets before its own that a datagram has
abbrev pub most_redundancy : ℕ
most_redundancy = 8

-- how many packets before its own a datagram has, how many packets were sent, modulo 65,536, the last of them, the newest
-- first, and one more than the most octets of a packet that is next sent without asking for memory, 0 where none surely is
pub record SenderValue : Type 0 where
  pub redundancy : ℕ
  pub count : ℕ
  pub last : List (List ℕ)
  pub spare : ℕ

-- a sender of this redundancy that was given these packets
pub record HasSent (redundancy : ℕ) (given : List (List ℕ)) (sender : SenderValue) : Type 0 where
  pub repeats : sender.redundancy ≡ redundancy
  pub count : sender.count ≡ length given % 65536
  pub last : sender.last ≡ take redundancy given

-- the datagram of the packet that is given after those: it has the packet, and as many of those as the redundancy says
abbrev pub datagram_for : (redundancy : ℕ) → List (List ℕ) → List ℕ → DatagramValue
datagram_for redundancy given packet =
    record { number = length given % 65536; primary = packet; secondaries = take redundancy given }

-- packets whose lengths can be written
abbrev pub AreShort : List (List ℕ) → Type 0
AreShort packets = AllByRecursion (λ packet. length packet ≤ 16383) packets

-- Room for the datagram of a packet of fewer than `spare` octets with these before it, and for a copy of the packet: six
-- octets of a datagram are not its packets' own at most, but for those of the packets before.
pub record HasRoom (spare : ℕ) (last : List (List ℕ)) (datagram_room copy_room : ℕ) : Type 0 where
  pub datagram : spare ≤ datagram_room - (5 + length (flat_map written_packet last))
  pub copy : spare ≤ copy_room + 1
