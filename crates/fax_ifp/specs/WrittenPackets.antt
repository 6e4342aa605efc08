-- Packets as they are written (ITU-T T.38 of 1998), each bit of padding 0.
use Rattle.std.specs.Prelude.{ℕ, ◌+◌, ◌-◌, ◌*◌, ◌/◌, ◌%◌, ◌≤◌, Bool, List, [], ◌∷◌, ◌++◌, length, All, Option, Some, None, IfSome, is_some, if◌then◌else◌}
use Rattle.fax_ifp.specs.Packets.{FieldText}

abbrev pub written_indicator : ℕ → List ℕ
written_indicator code = 2 * code ∷ []

-- the four bits of a field: whether its octets follow, and its type
abbrev pub four_bits : FieldText → ℕ
four_bits field = if is_some field.octets then 8 + field.what else field.what

-- the octets of a field, after a word of 16 bits, which is their number less one
abbrev pub counted : Option (List ℕ) → List ℕ
counted None = []
counted (Some octets) = (length octets - 1) / 256 ∷ (length octets - 1) % 256 ∷ octets

-- the octets of fields. Where bits are given, an octet begins with them: the four bits of a field without octets. Its
-- other half has the four bits of the next field, or zeros after the last. Octets of a field begin at the next octet
unfoldable pub written_after : Option ℕ → List FieldText → List ℕ
written_after None [] = []
written_after (Some bits) [] = 16 * bits ∷ []
written_after (Some bits) (field ∷ fields) =
    (16 * bits + four_bits field) ∷ counted field.octets ++ written_after None fields
written_after None (field ∷ fields) =
    if is_some field.octets
    then (16 * four_bits field ∷ counted field.octets ++ written_after None fields)
    else written_after (Some field.what) fields

abbrev pub written_fields : List FieldText → List ℕ
written_fields fields = written_after None fields

-- data; no fields are written without a count octet
abbrev pub written_message : ℕ → List FieldText → List ℕ
written_message kind [] = (0x40 + 2 * kind) ∷ []
written_message kind (field ∷ fields) =
    (0xC0 + 2 * kind) ∷ length (field ∷ fields) ∷ written_fields (field ∷ fields)

-- a field that can be written
pub record IsWritableField (field : FieldText) : Type 0 where
  pub what : field.what ≤ 7
  pub octets : IfSome field.octets (λ octets. (1 ≤ length octets) × (length octets ≤ 65535))

-- data that can be written
pub record IsWritable (kind : ℕ) (fields : List FieldText) : Type 0 where
  pub known : kind ≤ 8
  pub few : length fields ≤ 127
  pub each : All IsWritableField fields

-- a frame: V.21 data, hdlc-data with its octets and hdlc-fcs-OK-sig-end without
abbrev pub frame_fields : List ℕ → List FieldText
frame_fields frame =
    record { what = 0; octets = Some frame } ∷ record { what = 4; octets = None } ∷ []

-- octets of an image: t4-non-ecm-data, and in the last packet t4-non-ecm-sig-end
abbrev pub image_fields : Bool → List ℕ → List FieldText
image_fields last octets = record { what = if last then 7 else 6; octets = Some octets } ∷ []
