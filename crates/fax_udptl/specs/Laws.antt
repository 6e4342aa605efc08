-- What holds of numbers, slots and datagrams.
use Rattle.std.specs.Prelude.{◌≡◌, ℕ, ◌<◌, ◌≤◌, List, ◌∷◌, ◌++◌, length, Option, IsSome, ◌↔◌, Ok, Some, None, map, replicate, reverse}
use Rattle.fax_udptl.specs.Datagrams.{DatagramValue, datagram_of, written_datagram}
use Rattle.fax_udptl.specs.Sending.{AreShort}
use Rattle.fax_udptl.specs.Slots.{IsNearest, nearest, greatest, decision, slots, newest_slots}
use Rattle.fax_udptl.specs.Taking.{DecidedValue, Decides, slots_in}

-- what is nearest to an integer from 65,536 on is so, and nothing else is
abbrev pub OneIntegerIsNearest : Type 0
OneIntegerIsNearest = (expected number integer : ℕ)
    → 65536 ≤ expected → number < 65536 → (IsNearest expected number (nearest expected number))
    × (IsNearest expected number integer → integer ≡ nearest expected number)

-- one more datagram adds slots after those that were decided, and changes none of these
abbrev pub SlotsGoOn : Type 0
SlotsGoOn = (d : DatagramValue) (arrived : List DatagramValue)
    → (more : List (Option (List ℕ))) × (slots (d ∷ arrived) ≡ slots arrived ++ more)

-- With the newest slot first, what one more datagram decides stands before the others, its own slot first.
abbrev pub NewestSlotsGoOn : Type 0
NewestSlotsGoOn = (d : DatagramValue) (arrived : List DatagramValue) (decided : DecidedValue)
    → Decides arrived d decided
    → newest_slots (d ∷ arrived) ≡ reverse (slots_in decided) ++ newest_slots arrived

-- With the newest first, the packets that are decided stand before the slots that are missing.
abbrev pub NewestOfDecided : Type 0
NewestOfDecided = (decided : DecidedValue)
    → reverse (slots_in decided) ≡ reverse (map Some decided.packets) ++ replicate decided.lost None

-- each slot up to the greatest integer is decided, and no other
abbrev pub SlotsAreDecided : Type 0
SlotsAreDecided = (d : DatagramValue) (arrived : List DatagramValue) (k : ℕ)
    → IsSome (decision (d ∷ arrived) k) ↔ (k ≤ greatest (d ∷ arrived))

-- what can be written: the number has 16 bits, the lengths and the count have 14
pub record CanBeWritten (d : DatagramValue) : Type 0 where
  pub number : d.number < 65536
  pub primary : length d.primary ≤ 16383
  pub secondaries : AreShort d.secondaries
  pub count : length d.secondaries ≤ 16383

-- a written datagram is read as itself
abbrev pub WrittenIsRead : Type 0
WrittenIsRead = (d : DatagramValue) → CanBeWritten d → datagram_of (written_datagram d) ≡ Ok d
