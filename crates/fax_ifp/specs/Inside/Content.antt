-- How a packet that was read is kept, and the packet that it is.
use Rattle.std.specs.Prelude.{ℕ, List, Result, Ok, Err}
use Rattle.std.specs.Borrow.{Bor}
use Rattle.fax_ifp.specs.declared.fault.IfpFault.{IfpFault}
use Rattle.fax_ifp.specs.declared.packet.Content.{Content}
use Rattle.fax_ifp.specs.declared.packet.Content.TheVariants as contents
use Rattle.fax_ifp.specs.declared.packet.Field.{Field}
use Rattle.fax_ifp.specs.declared.packet.Place.{Place}
use Rattle.fax_ifp.specs.Packets.{Packet, Indicator, Message, ReadField}
use Rattle.fax_ifp.specs.Seen.{text_of, texts_of}

abbrev pub packet_in : Content → Packet
packet_in (contents.Indicator code) = Indicator code
packet_in (contents.Message kind fields) = Message kind (texts_of fields.items)

-- two slices that were read
abbrev pub seen_octets : Result (Bor (List ℕ) × Bor (List ℕ)) IfpFault
    → Result (List ℕ × List ℕ) IfpFault
seen_octets (Ok slices) = Ok (slices.0.now, slices.1.now)
seen_octets (Err fault) = Err fault

-- a field that was read, and the place after it
abbrev pub seen_field : Result (Field × Place) IfpFault → Result ReadField IfpFault
seen_field (Ok read) =
    Ok (record { text = text_of read.0; half = read.1.half; octets = read.1.octets.now })
seen_field (Err fault) = Err fault
