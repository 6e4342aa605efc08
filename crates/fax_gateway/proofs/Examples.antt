-- A trace worked through on the definitions: a ring and four ticks, with all that a gateway answers. The newest event stands
-- first.
use Rattle.std.proofs.Common.{◌≡◌, ℕ, ◌+◌, ◌<◌, ◌≤◌, false, List, [], ◌∷◌, Option, Some, None, refl, ap}
use Rattle.std.proofs.Common.{arith, lit<}
use Rattle.fax_bits.specs.Bits as bits
use Rattle.fax_udptl.specs.Datagrams.{datagram_of, packet_at, packets_at, length_at, secondaries_at, written_length, written_packet, written_datagram}
use Rattle.fax_ifp.specs.Elements.{Field}
use Rattle.fax_ifp.specs.Packets as packets
use Rattle.fax_ifp.specs.Packets.{packet_of, fields_at}
use Rattle.fax_ifp.specs.WrittenPackets.{written_after}
use Rattle.fax_call.specs.Writings.{Writing, IsWriting}
use Rattle.fax_call.proofs.Texts.{pages_have_texts}
use Rattle.fax_gateway.specs.Setups.{Setup}
use Rattle.fax_gateway.specs.Events.{Event, Ring, Tick, Given}
use Rattle.fax_gateway.specs.Traces.{IsTrace}
use Rattle.fax_gateway.specs.Told.{elements_told}
use Rattle.fax_gateway.specs.Apart.{HasPreamble, IsApart, last_given}

gives : Option (List ℕ) → Given
gives on_calling = record { on_calling = on_calling; on_called = None; report = None }

-- CED, the preamble after it, and our DIS, each with the packets before it
ced : List ℕ
ced = 0x00 ∷ 0x00 ∷ 0x01 ∷ 0x04 ∷ 0x00 ∷ 0x00 ∷ []

preamble : List ℕ
preamble = 0x00 ∷ 0x01 ∷ 0x01 ∷ 0x06 ∷ 0x00 ∷ 0x01 ∷ 0x01 ∷ 0x04 ∷ []

dis : List ℕ
dis = 0x00 ∷ 0x02 ∷ 0x0C ∷ 0xC0 ∷ 0x02 ∷ 0x80 ∷ 0x00 ∷ 0x05 ∷ 0xFF ∷ 0xC8 ∷ 0x01 ∷ 0x00 ∷ 0x77 ∷ 0x5E ∷ 0x40 ∷ 0x00 ∷ 0x02 ∷ 0x01 ∷ 0x06 ∷ 0x01 ∷ 0x04 ∷ []

rung : List Event
rung = Ring 0 0 ∷ []

identifies : List Event
identifies = Tick 80 (gives (Some dis)) ∷ Tick 40 (gives (Some preamble)) ∷ Tick 20 (gives None) ∷ Tick 0 (gives (Some ced)) ∷ rung

-- the usual setup
abbrev pub usual : Setup
usual = record { redundancy = 3; few = omega arith; pause = 40; is_pause = (omega arith, omega arith); asks = false; restored = []; are_pages = tt }

is_trace : (writes : Writing) → IsTrace usual writes identifies
unfolding identifies rung ced preamble dis gives written_datagram written_packet written_length written_after
is_trace writes = (refl, (refl, (refl, (refl, ((refl, lit< tt, refl), tt)))))

-- so the premises of the laws are met
premises : (writes : Writing) × IsWriting writes × IsTrace usual writes identifies
premises = (pages_have_texts.0, pages_have_texts.1, is_trace pages_have_texts.0)

-- the DIS is read back from what was given
tells_dis : elements_told (Some dis) ≡ Field 0 0 (0xFF ∷ 0xC8 ∷ 0x01 ∷ 0x00 ∷ 0x77 ∷ 0x5E ∷ []) ∷ Field 0 4 [] ∷ []
unfolding dis datagram_of packet_at packets_at length_at secondaries_at packet_of fields_at bits.bit packets.fields_after packets.field_at packets.octets_at
tells_dis = refl

-- a gateway that gives nothing has no trace after a ring
gives_nothing : (setup : Setup) (writes : Writing) → IsTrace setup writes (Tick 0 (gives None) ∷ rung) → ⊥
unfolding rung gives
gives_nothing setup writes t = let e = ap (λ (g : Given). g.on_calling) t.0 in cc

-- THREE BAD GATEWAYS, for which 1,000 ms are set after a preamble: each gives its next datagram too soon for the law.
slow : Setup
slow = record { redundancy = 3; few = omega arith; pause = 1000; is_pause = (omega arith, omega arith); asks = false; restored = []; are_pages = tt }

has_preamble : HasPreamble preamble
unfolding preamble datagram_of packet_at packets_at length_at secondaries_at
has_preamble = (record { number = 1; primary = 0x06 ∷ []; secondaries = (0x04 ∷ []) ∷ [] }, refl, refl)

too_soon : (at now : ℕ) → now < at + 1000 → IsApart slow (Some (record { at = at; octets = preamble })) now → ⊥
unfolding slow
too_soon at now h apart = let e : at + 1000 ≤ now = apart.1 has_preamble in omega (arith, h, e)

begun : List Event
begun = Tick 40 (gives (Some preamble)) ∷ Tick 0 (gives (Some ced)) ∷ rung

-- it waits for 40 ms whatever is set
always_40 : IsApart slow (last_given (λ g. g.on_calling) begun) 80 → ⊥
unfolding begun gives rung
always_40 = too_soon 40 80 (omega arith)

-- its pause is the one of the other leg, on which a tone was given
cng : Given
cng = record { on_calling = None; on_called = Some (0x00 ∷ 0x00 ∷ 0x01 ∷ 0x02 ∷ 0x00 ∷ 0x00 ∷ []); report = None }

of_the_other_leg : IsApart slow (last_given (λ g. g.on_calling) (Tick 80 cng ∷ begun)) 120 → ⊥
unfolding begun gives rung cng
of_the_other_leg = too_soon 40 120 (omega arith)

-- it pauses before the first frame of a call alone
once_a_call : IsApart slow (last_given (λ g. g.on_calling) (Tick 1080 (gives (Some preamble)) ∷ Tick 1040 (gives (Some dis)) ∷ begun)) 1120 → ⊥
unfolding begun gives rung
once_a_call = too_soon 1080 1120 (omega arith)
