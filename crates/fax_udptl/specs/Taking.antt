-- What a receiver is, and what one more datagram decides. (ITU-T T.38, UDPTL.)
use Rattle.std.specs.Prelude.{◌≡◌, ℕ, ◌+◌, ◌%◌, List, [], ◌∷◌, ◌++◌, map, replicate, Option, Some, None, Ok}
use Rattle.fax_udptl.specs.Datagrams.{DatagramValue, datagram_of}
use Rattle.fax_udptl.specs.Slots.{greatest, first_slot, slots}

-- a receiver to which these datagrams came, the newest first: it expects the number after the greatest
abbrev pub IsAfter : List DatagramValue → Option ℕ → Type 0
IsAfter [] expected = expected ≡ None
IsAfter (d ∷ earlier) expected = expected ≡ Some ((greatest (d ∷ earlier) + 1) % 65536)

-- slots in a row: the first one's number, how many are missing, and the packets after these
pub record DecidedValue : Type 0 where
  pub from : ℕ
  pub lost : ℕ
  pub packets : List (List ℕ)

-- these slots, in order
abbrev pub slots_in : DecidedValue → List (Option (List ℕ))
slots_in decided = replicate decided.lost None ++ map Some decided.packets

-- the slot at which a datagram that comes after those can first decide
abbrev pub next_slot : List DatagramValue → DatagramValue → ℕ
next_slot [] d = first_slot (d ∷ [])
next_slot (e ∷ earlier) d = greatest (e ∷ earlier) + 1

-- the datagram d, which comes after those that arrived, decides just these slots
pub record Decides (arrived : List DatagramValue) (d : DatagramValue) (decided : DecidedValue) :
    Type 0 where
  pub from : decided.from ≡ next_slot arrived d % 65536
  pub slots : slots (d ∷ arrived) ≡ slots arrived ++ slots_in decided

-- Octets that are a datagram led a receiver from old to new and decided these slots, whatever had arrived.
pub record Takes (octets : List ℕ) (old new : Option ℕ) (decided : DecidedValue) : Type 0 where
  pub datagram : DatagramValue
  pub is : datagram_of octets ≡ Ok datagram
  pub after : (arrived : List DatagramValue)
      → IsAfter arrived old → IsAfter (datagram ∷ arrived) new
  pub decides : (arrived : List DatagramValue)
      → IsAfter arrived old → Decides arrived datagram decided
