-- What contracts see of packets and fields that borrow from octets.
use Rattle.std.specs.Prelude.{ℕ, List, [], map, Option, Some, None}
use Rattle.std.specs.Borrow.{Bor}
use Rattle.fax_ifp.specs.declared.packet.Field.{Field}
use Rattle.fax_ifp.specs.declared.packet.Head.{Head}
use Rattle.fax_ifp.specs.declared.packet.Head.TheVariants as heads
use Rattle.fax_ifp.specs.Packets.{FieldText, Packet, Indicator, Message}

abbrev pub octets_in : Option (Bor (List ℕ)) → Option (List ℕ)
octets_in None = None
octets_in (Some octets) = Some octets.now

-- a field without where its octets lie
abbrev pub text_of : Field → FieldText
text_of field = record { what = field.what; octets = octets_in field.octets }

abbrev pub texts_of : List Field → List FieldText
texts_of fields = map text_of fields

-- whether a packet is an indicator or data, and which
abbrev pub head_of : Packet → Head
head_of (Indicator code) = heads.Indicator code
head_of (Message kind fields) = heads.Message kind

-- the fields of data; an indicator has none
abbrev pub fields_in : Packet → List FieldText
fields_in (Indicator code) = []
fields_in (Message kind fields) = fields
