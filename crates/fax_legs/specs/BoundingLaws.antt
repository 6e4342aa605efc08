-- What holds of bounded datagrams. (This project's profile.)
use Rattle.std.specs.Prelude.{◌≡◌, ◌⊎◌, ℕ, ◌<◌, ◌≤◌, true, List, length, Some, Ok, IfSome, IsSomeAnd}
use Rattle.fax_gateway.specs.Wires.{buffer_octets}
use Rattle.fax_udptl.specs.Datagrams.{DatagramValue, datagram_of, written_datagram}
use Rattle.fax_legs.specs.Bounding.{fewer, is_sendable, sent_as}
use Rattle.fax_legs.specs.declared.bounding.Limits.{Limits}

-- a datagram that a sender sends, and UDP carries
pub record IsSendable (d : DatagramValue) : Type 0 where
  pub number : d.number < 65536
  pub sendable : is_sendable d ≡ true
  pub size : length (written_datagram d) ≤ buffer_octets

-- It is sent with the first of its secondaries, as MANY as the bounds allow: no more than the redundancy says, and with no octet more
-- than there may be, where any is kept; with each more it would have too many, or too many octets. So those that are left out are
-- the oldest; and what is sent is read as the same number, the same primary, and those.
pub record IsCut (limits : Limits) (d : DatagramValue) (sent : List ℕ) : Type 0 where
  pub kept : ℕ
  pub sent_is : sent ≡ written_datagram (fewer kept d)
  pub read_as : datagram_of sent ≡ Ok (fewer kept d)
  pub few : kept ≤ limits.redundancy
  pub within : IfSome limits.octets (λ most. (length sent ≤ most) ⊎ (kept ≡ 0))
  pub greatest : (more : ℕ) → kept < more → more ≤ limits.redundancy → more ≤ length d.secondaries
      → IsSomeAnd limits.octets (λ most. most < length (written_datagram (fewer more d)))

abbrev pub DatagramsAreCut : Type 0
DatagramsAreCut = (limits : Limits) (d : DatagramValue)
    → IsSendable d → IsCut limits d (sent_as limits (written_datagram d))

-- what no sender sends goes as it is
abbrev pub OthersGoAsTheyAre : Type 0
OthersGoAsTheyAre = (limits : Limits) (octets : List ℕ)
    → ((d : DatagramValue) → is_sendable d ≡ true → octets ≡ written_datagram d → ⊥)
    → sent_as limits octets ≡ octets

-- NO DATAGRAM IS LONGER THAN ITS BOUND, but one that has its own packet alone.
abbrev pub NoneIsTooLong : Type 0
NoneIsTooLong = (limits : Limits) (most : ℕ) (d : DatagramValue) → limits.octets ≡ Some most
    → IsSendable d → (length (sent_as limits (written_datagram d)) ≤ most)
    ⊎ (sent_as limits (written_datagram d) ≡ written_datagram (fewer 0 d))
