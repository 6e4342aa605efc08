-- Honest schedules: the datagrams of one sender reach a call with losses, with repeats and in any order. (ITU-T T.38, UDPTL:
-- sequence numbers and redundancy. How many packets a datagram repeats, and how far it may lag or run ahead, is this
-- project's profile.)
-- Lists of what came have the newest first; the packets of a sender have the first sent first.
use Rattle.std.specs.Prelude.{◌≡◌, ℕ, zero, suc, ◌+◌, ◌-◌, ◌*◌, ◌%◌, ◌<◌, ◌≤◌, ◌⊎◌, max, List, [], ◌∷◌, ◌++◌, length, reverse, slice_get, Option, Some, None}
use Rattle.fax_bits.specs.Losses.{AreSlotsBefore}
use Rattle.fax_udptl.specs.Datagrams.{DatagramValue}
use Rattle.fax_udptl.specs.Sending.{datagram_for, most_redundancy}
use Rattle.fax_udptl.specs.Slots.{decision, newest_slots}

-- The sender's datagram at a place of its list: it has the place's number, the packet of the place, and some of the packets
-- just before it, the nearest first and none left out.
pub record IsSentAt (packets : List (List ℕ)) (place : ℕ) (d : DatagramValue) : Type 0 where
  pub number : d.number ≡ place % 65536
  pub primary : slice_get packets place ≡ Some d.primary
  pub few : length d.secondaries ≤ place
  pub countable : length d.secondaries ≤ 16383
  pub secondaries : (i : ℕ)
      → i < length d.secondaries → slice_get d.secondaries i ≡ slice_get packets (place - 1 - i)

-- a datagram that came, and the place at which it was sent
pub record Arrival : Type 0 where
  pub place : ℕ
  pub datagram : DatagramValue

abbrev pub datagrams : List Arrival → List DatagramValue
datagrams [] = []
datagrams (a ∷ earlier) = a.datagram ∷ datagrams earlier

abbrev pub greatest_place : List Arrival → ℕ
greatest_place [] = 0
greatest_place (a ∷ earlier) = max a.place (greatest_place earlier)

-- a place within 32,767 of the greatest that came before
abbrev pub IsNear : List Arrival → ℕ → Type 0
IsNear [] place = Unit {0}
IsNear (a ∷ earlier) place =
    (place ≤ greatest_place (a ∷ earlier) + 32767) × (greatest_place (a ∷ earlier) ≤ place + 32767)

-- any list of the sender's datagrams, each near to those before it
abbrev pub IsHonest : List (List ℕ) → List Arrival → Type 0
IsHonest packets [] = Unit {0}
IsHonest packets (a ∷ earlier) =
    IsSentAt packets a.place a.datagram × IsNear earlier a.place × IsHonest packets earlier

-- The datagram that came first reaches back to the first packet of the list: so the slots begin there.
abbrev pub BeginsAtFirst : List Arrival → Type 0
BeginsAtFirst [] = Unit {0}
BeginsAtFirst (a ∷ []) = length a.datagram.secondaries ≡ a.place
BeginsAtFirst (a ∷ b ∷ earlier) = BeginsAtFirst (b ∷ earlier)

-- Slot k is missing, or it is the sender's packet of a place: slots are counted from -65,536, and modulo 65,536 alone their
-- numbers are those of the places, so that places are shifted by a multiple of it.
pub record IsShifted (packets : List (List ℕ)) (multiple k : ℕ) (slot : Option (List ℕ)) :
    Type 0 where
  pub place : ℕ
  pub shifted : k + 65536 * multiple ≡ place + 65536
  pub is : slot ≡ slice_get packets place

-- Over every honest schedule each slot that is decided is missing or is the sender's packet of its place, and all places are
-- shifted by one multiple of 65,536.
abbrev pub SlotsAreSent : Type 0
SlotsAreSent = (packets : List (List ℕ)) (arrivals : List Arrival)
    → IsHonest packets arrivals → (multiple : ℕ)
    × ((k : ℕ) (slot : Option (List ℕ)) → decision (datagrams arrivals) k ≡ Some slot
    → (slot ≡ None) ⊎ IsShifted packets multiple k slot)

-- the slots of a call are a part of the list, with losses; from its first packet on where the first datagram says so
pub record ArePartOf (packets : List (List ℕ)) (arrivals : List Arrival) : Type 0 where
  pub next : ℕ
  pub within : next ≤ length packets
  pub slots : AreSlotsBefore packets next (newest_slots (datagrams arrivals))
  pub whole : BeginsAtFirst arrivals → next ≡ length (newest_slots (datagrams arrivals))

abbrev pub SlotsAreAPart : Type 0
SlotsAreAPart = (packets : List (List ℕ)) (arrivals : List Arrival)
    → IsHonest packets arrivals → ArePartOf packets arrivals

-- The datagrams of a sender that was given these packets, the newest first, are those of its list, whatever its redundancy.
abbrev pub SendersSendTheirList : Type 0
SendersSendTheirList =
    (redundancy : ℕ) (later : List (List ℕ)) (packet : List ℕ) (given : List (List ℕ))
    → redundancy ≤ most_redundancy → IsSentAt (reverse (later ++ packet ∷ given))
    (length given) (datagram_for redundancy given packet)
