-- The beginning of a whole call on both legs, computed: a page is confirmed, and its job's call begins in the same tick. The
-- newest event stands last in `script`.
use Rattle.std.proofs.Common.{◌≡◌, ℕ, false, true, List, [], ◌∷◌, ◌++◌, reverse, replicate, Some, None, refl}
use Rattle.fax_bits.specs.Bits as bits
use Rattle.fax_runcodes.specs.declared.Width.TheVariants.{W1728}
use Rattle.fax_udptl.specs.Datagrams.{datagram_of, packet_at, packets_at, length_at, secondaries_at, written_length, written_packet, written_datagram}
use Rattle.fax_udptl.specs.Slots.{slots, newest_slots}
use Rattle.fax_ifp.specs.Packets as packets
use Rattle.fax_ifp.specs.Packets.{packet_of, fields_at}
use Rattle.fax_ifp.specs.WrittenPackets.{written_after}
use Rattle.fax_answer.specs.Orders.{order_of}
use Rattle.fax_answer.specs.Table.{Reading}
use Rattle.fax_call.specs.Writings.{Writing}
use Rattle.fax_gateway.specs.Events.{Event, Ring, FromCalling, Tick, Placed}
use Rattle.fax_gateway.specs.Asking.{asked_after}
use Rattle.fax_gateway.specs.Setups.{Setup}
use Rattle.fax_gateway.specs.Turns.{call_asked}
use Rattle.fax_gateway.specs.Legs.{new_pieces, decides}
use Rattle.fax_gateway.specs.CallingLegs.{calling_leg, told_calling}
use Rattle.fax_gateway.specs.CalledLegs.{told_called}
use Rattle.fax_gateway.specs.BothLegs.{in_tick}
use Rattle.fax_gateway.proofs.Examples.{usual}

unfoldable pub blank : Reading
blank = Some (record { format = record { width = W1728; fine = false }; rows = [] })

unfoldable pub tick : ℕ → Event
tick ms = Tick ms (record { on_calling = None; on_called = None; report = None })

unfoldable pub comes : List ℕ → Event
comes octets = FromCalling octets 0 true None

-- a DCS, a training check of 300 zero octets, an image, EOP
unfoldable pub script : List Event
script =
    Ring 0 0 ∷ tick 0 ∷ tick 40 ∷ tick 80
    ∷ comes (0x00 ∷ 0x00 ∷ 0x0C ∷ 0xC0 ∷ 0x02 ∷ 0x80 ∷ 0x00 ∷ 0x05 ∷ 0xFF ∷ 0xC8 ∷ 0xC1 ∷ 0x00 ∷ 0x40 ∷ 0x00 ∷ 0x40 ∷ 0x00 ∷ 0x00 ∷ [])
    ∷ comes (0x00 ∷ 0x01 ∷ 0x01 ∷ 0x08 ∷ 0x00 ∷ 0x00 ∷ [])
    ∷ comes (0x00 ∷ 0x02 ∷ 0x81 ∷ 0x31 ∷ 0xC2 ∷ 0x01 ∷ 0xF0 ∷ 0x01 ∷ 0x2B ∷ replicate 300 0 ++ 0x00 ∷ 0x00 ∷ [])
    ∷ tick 120 ∷ tick 160
    ∷ comes (0x00 ∷ 0x03 ∷ 0x01 ∷ 0x08 ∷ 0x00 ∷ 0x00 ∷ [])
    ∷ comes (0x00 ∷ 0x04 ∷ 0x12 ∷ 0xC2 ∷ 0x01 ∷ 0xF0 ∷ 0x00 ∷ 0x0C ∷ 0x00 ∷ 0x14 ∷ 0xD9 ∷ 0xA8 ∷ 0x00 ∷ 0x80 ∷ 0x08 ∷ 0x00 ∷ 0x80 ∷ 0x08 ∷ 0x00 ∷ 0x80 ∷ 0x08 ∷ 0x00 ∷ 0x00 ∷ [])
    ∷ comes (0x00 ∷ 0x05 ∷ 0x01 ∷ 0x06 ∷ 0x00 ∷ 0x00 ∷ [])
    ∷ FromCalling (0x00 ∷ 0x06 ∷ 0x09 ∷ 0xC0 ∷ 0x02 ∷ 0x80 ∷ 0x00 ∷ 0x02 ∷ 0xFF ∷ 0xC8 ∷ 0xF4 ∷ 0x40 ∷ 0x00 ∷ 0x00 ∷ []) 0 true blank
    ∷ tick 200 ∷ []

-- the preamble goes out at 200, and the frame MCF at 240, with the three packets before it
gives_mcf : told_calling usual (calling_leg usual (reverse script)) 240
    ≡ Some (0x00 ∷ 0x06 ∷ 0x09 ∷ 0xC0 ∷ 0x02 ∷ 0x80 ∷ 0x00 ∷ 0x02 ∷ 0xFF ∷ 0xC8 ∷ 0x31 ∷ 0x40 ∷ 0x00 ∷ 0x03 ∷ 0x01 ∷ 0x06 ∷ 0x09 ∷ 0xC0 ∷ 0x02 ∷ 0x80 ∷ 0x00 ∷ 0x02 ∷ 0xFF ∷ 0xC8 ∷ 0x21 ∷ 0x40 ∷ 0x01 ∷ 0x06 ∷ [])
unfolding script comes tick blank new_pieces decides newest_slots slots datagram_of packet_at packets_at length_at secondaries_at packet_of fields_at order_of bits.bit packets.fields_after packets.field_at packets.octets_at written_datagram written_packet written_length written_after
gives_mcf = refl

-- the tick that confirms the page begins its job's call: CNG
gives_cng : (writes : Writing) → told_called usual writes (in_tick usual writes (reverse script) 240).leg 240 ≡ Some (0x00 ∷ 0x00 ∷ 0x01 ∷ 0x02 ∷ 0x00 ∷ 0x00 ∷ [])
unfolding script comes tick blank new_pieces decides newest_slots slots datagram_of packet_at packets_at length_at secondaries_at packet_of fields_at order_of bits.bit packets.fields_after packets.field_at packets.octets_at written_datagram written_packet written_length written_after
gives_cng writes = refl

-- where calls are asked for, that tick gives nothing on the called leg, and after it the job's call is asked for; where it is
-- placed, the next tick gives CNG
abbrev asking : Setup
asking = record { redundancy = usual.redundancy; few = usual.few; pause = usual.pause; is_pause = usual.is_pause; asks = true; restored = []; are_pages = tt }

gives_none : (writes : Writing) → told_called asking writes (in_tick asking writes (reverse script) 240).leg 240 ≡ None
unfolding script comes tick blank new_pieces decides newest_slots slots datagram_of packet_at packets_at length_at secondaries_at packet_of fields_at order_of bits.bit packets.fields_after packets.field_at packets.octets_at written_datagram written_packet written_length written_after
gives_none writes = refl

asks_for_it : (writes : Writing) → call_asked (asked_after asking writes (tick 240 ∷ reverse script)) ≡ Some 0
unfolding script comes tick blank new_pieces decides newest_slots slots datagram_of packet_at packets_at length_at secondaries_at packet_of fields_at order_of bits.bit packets.fields_after packets.field_at packets.octets_at written_datagram written_packet written_length written_after
asks_for_it writes = refl

gives_cng_where_placed : (writes : Writing) → told_called asking writes (in_tick asking writes (Placed 20000 true ∷ tick 240 ∷ reverse script) 20000).leg 20000 ≡ Some (0x00 ∷ 0x00 ∷ 0x01 ∷ 0x02 ∷ 0x00 ∷ 0x00 ∷ [])
unfolding script comes tick blank new_pieces decides newest_slots slots datagram_of packet_at packets_at length_at secondaries_at packet_of fields_at order_of bits.bit packets.fields_after packets.field_at packets.octets_at written_datagram written_packet written_length written_after
gives_cng_where_placed writes = refl
