-- What the slots of a call say, element by element. (ITU-T T.38; what counts as missing is this
-- project's profile.)
use Rattle.std.specs.Prelude.{ℕ, List, [], ◌∷◌, ◌++◌, map, reverse, Option, Some, None, unwrap_or, Result, Ok, Err}
use Rattle.fax_ifp.specs.declared.fault.IfpFault.{IfpFault}
use Rattle.fax_ifp.specs.declared.fault.IfpFault.TheVariants.{Extension}
use Rattle.fax_ifp.specs.Packets.{FieldText, Packet, Indicator, Message, packet_of}

-- the place of one packet of a call: its octets, or nothing where it is lost
abbrev pub Slot : Type 0
Slot = Option (List ℕ)

-- an indicator, or one field of a packet of data; kind is the packet's data type, what the field's
-- type, and a field with no octets present has the octets []
pub data Element : Type 0 where
  Missing : Element
  Signal : (code : ℕ) → Element
  Field : (kind what : ℕ) → (octets : List ℕ) → Element

abbrev pub element_of : ℕ → FieldText → Element
element_of kind field = Field kind field.what (unwrap_or field.octets [])

-- what a packet says; one that cannot be read is missing, and one refused as an extension says nothing
abbrev pub elements_in : Result Packet IfpFault → List Element
elements_in (Ok (Indicator code)) = Signal code ∷ []
elements_in (Ok (Message kind fields)) = map (element_of kind) fields
elements_in (Err Extension) = []
elements_in (Err fault) = Missing ∷ []

abbrev pub elements_of : Slot → List Element
elements_of None = Missing ∷ []
elements_of (Some octets) = elements_in (packet_of octets)

-- what slots say, both the newest first
abbrev pub elements : List Slot → List Element
elements [] = []
elements (slot ∷ before) = reverse (elements_of slot) ++ elements before
