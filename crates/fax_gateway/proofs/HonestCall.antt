-- The beginning of a whole call is an honest schedule of its seven packets, in which one page is accepted: so what is told of
-- such schedules is told of something. Arrivals have the newest first.
use Rattle.std.proofs.Common.{◌≡◌, ℕ, zero, suc, ◌%◌, ◌<◌, Bool, true, false, List, [], ◌∷◌, ◌++◌, length, reverse, replicate, Option, Some, None, option_map, refl, arith, slice_get}
use Rattle.fax_bits.specs.Bits as bits
use Rattle.fax_runcodes.specs.declared.Width.TheVariants.{W1728}
use Rattle.fax_pagestore.specs.Pages.{PageValue}
use Rattle.fax_udptl.specs.Datagrams.{DatagramValue, datagram_of, packet_at, packets_at, length_at, secondaries_at, written_length, written_packet, written_datagram}
use Rattle.fax_udptl.specs.Slots.{slots, newest_slots}
use Rattle.fax_udptl.specs.Schedules.{Arrival, IsSentAt, IsHonest, BeginsAtFirst, datagrams}
use Rattle.fax_ifp.specs.Packets as packets
use Rattle.fax_ifp.specs.Packets.{packet_of, fields_at}
use Rattle.fax_ifp.specs.WrittenPackets.{written_after}
use Rattle.fax_answer.specs.Orders.{order_of}
use Rattle.fax_answer.specs.Sent.{pages_accepted}
use Rattle.fax_gateway.specs.Legs.{new_pieces, decides}
use Rattle.fax_gateway.specs.CallingLegs.{CallingLeg, core_of, calling_leg}
use Rattle.fax_gateway.proofs.Examples.{usual}
use Rattle.fax_gateway.proofs.WholeCall.{script, comes, tick, blank}

-- a DCS, a training check of 300 zero octets, an image, EOP
abbrev sent : List (List ℕ)
sent =
    (0xC0 ∷ 0x02 ∷ 0x80 ∷ 0x00 ∷ 0x05 ∷ 0xFF ∷ 0xC8 ∷ 0xC1 ∷ 0x00 ∷ 0x40 ∷ 0x00 ∷ 0x40 ∷ [])
    ∷ (0x08 ∷ [])
    ∷ (0xC2 ∷ 0x01 ∷ 0xF0 ∷ 0x01 ∷ 0x2B ∷ replicate 300 0)
    ∷ (0x08 ∷ [])
    ∷ (0xC2 ∷ 0x01 ∷ 0xF0 ∷ 0x00 ∷ 0x0C ∷ 0x00 ∷ 0x14 ∷ 0xD9 ∷ 0xA8 ∷ 0x00 ∷ 0x80 ∷ 0x08 ∷ 0x00 ∷ 0x80 ∷ 0x08 ∷ 0x00 ∷ 0x80 ∷ 0x08 ∷ [])
    ∷ (0x06 ∷ [])
    ∷ (0xC0 ∷ 0x02 ∷ 0x80 ∷ 0x00 ∷ 0x02 ∷ 0xFF ∷ 0xC8 ∷ 0xF4 ∷ 0x40 ∷ [])
    ∷ []

-- each packet in a datagram of its own, with none before it
abbrev alone : ℕ → List ℕ → Arrival
alone place packet = record { place = place; datagram = record { number = place; primary = packet; secondaries = [] } }

abbrev arrivals_of : ℕ → List (List ℕ) → List Arrival → List Arrival
arrivals_of place [] earlier = earlier
arrivals_of place (packet ∷ more) earlier = arrivals_of (suc place) more (alone place packet ∷ earlier)

abbrev arrivals : List Arrival
arrivals = arrivals_of 0 sent []

is_sent : (place : ℕ) (packet : List ℕ) → place < 65536 → slice_get sent place ≡ Some packet → IsSentAt sent place (alone place packet).datagram
is_sent place packet small is =
    record {
      number = let n : place % 65536 ≡ place = omega arith in omega arith;
      primary = is;
      few = omega arith;
      countable = omega arith;
      secondaries = λ i before. absurd (omega (arith, before));
    }

is_honest : IsHonest sent arrivals
is_honest = (
  is_sent 6 _ (omega arith) refl,
  (omega arith, omega arith),
  (
    is_sent 5 _ (omega arith) refl,
    (omega arith, omega arith),
    (
      is_sent 4 _ (omega arith) refl,
      (omega arith, omega arith),
      (
        is_sent 3 _ (omega arith) refl,
        (omega arith, omega arith),
        (
          is_sent 2 _ (omega arith) refl,
          (omega arith, omega arith),
          (
            is_sent 1 _ (omega arith) refl,
            (omega arith, omega arith),
            (is_sent 0 _ (omega arith) refl, tt, tt),
          ),
        ),
      ),
    ),
  ),
)

-- the slots begin at its first packet
begins : BeginsAtFirst arrivals
begins = refl

-- they are the datagrams that came in the usual setup, and a page is accepted
arrive : option_map (λ (l : CallingLeg). l.arrived) (calling_leg usual (reverse script)) ≡ Some (datagrams arrivals)
unfolding script comes tick blank new_pieces decides newest_slots slots datagram_of packet_at packets_at length_at secondaries_at packet_of fields_at order_of bits.bit packets.fields_after packets.field_at packets.octets_at written_datagram written_packet written_length written_after
arrive = refl

accepts : option_map (λ (l : CallingLeg). pages_accepted (core_of l).history) (calling_leg usual (reverse script)) ≡ Some (record { format = record { width = W1728; fine = false }; rows = [] } ∷ [])
unfolding script comes tick blank new_pieces decides newest_slots slots datagram_of packet_at packets_at length_at secondaries_at packet_of fields_at order_of bits.bit packets.fields_after packets.field_at packets.octets_at written_datagram written_packet written_length written_after
accepts = refl
