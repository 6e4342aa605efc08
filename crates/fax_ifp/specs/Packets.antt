-- Packets (ITU-T T.38 of 1998: the IFP packet, an indicator or data with fields; what is marked own is this
-- project's profile).
use Rattle.std.specs.Prelude.{◌≡◌, ℕ, zero, suc, ◌+◌, ◌-◌, ◌*◌, ◌/◌, ◌%◌, ◌<◌, nat_lt, nat_eq, List, [], ◌∷◌, take, drop, length, Option, Some, None, Result, Ok, Err, if◌then◌else◌}
use Rattle.fax_bits.specs.Bits.{bit}
use Rattle.fax_ifp.specs.declared.fault.IfpFault.{IfpFault}
use Rattle.fax_ifp.specs.declared.fault.IfpFault.TheVariants.{Short, Extension, BadValue, BadCount}

-- a field: its type, and its octets where it has some
pub record FieldText : Type 0 where
  pub what : ℕ
  pub octets : Option (List ℕ)

pub data Packet : Type 0 where
  Indicator : (code : ℕ) → Packet
  Message : (kind : ℕ) → (fields : List FieldText) → Packet

-- what is read, or the first fault from the left
infixl 10 ◌>>=◌
abbrev pub ◌>>=◌ : {A B : Type 0} → Result A IfpFault → (A → Result B IfpFault) → Result B IfpFault
(Ok x) >>= f = f x
(Err fault) >>= f = Err fault

-- the octets of a field, one more than the word says, and what is after them; a field has 65,535 at most (own)
abbrev pub octets_by : ℕ → List ℕ → Result (List ℕ × List ℕ) IfpFault
octets_by word octets =
    if nat_eq word 0xFFFF then Err BadCount
    else if nat_lt (length octets) (word + 1) then Err Short
    else Ok (take (word + 1) octets, drop (word + 1) octets)

-- the octets of a field after their length word: 16 bits, which are their number less one
unfoldable pub octets_at : List ℕ → Result (List ℕ × List ℕ) IfpFault
octets_at (high ∷ low ∷ octets) = octets_by (256 * high + low) octets
octets_at few = Err Short

-- a field, and what is after it: the half octet that is left of an octet, if one is, and octets
pub record ReadField : Type 0 where
  pub text : FieldText
  pub half : Option ℕ
  pub octets : List ℕ

-- a field of four bits: the first says that its octets follow, from the next octet on, and the others are its type
abbrev pub field_of : ℕ → Option ℕ → List ℕ → Result ReadField IfpFault
field_of bits half octets = if nat_lt bits 8
    then Ok (record { text = record { what = bits; octets = None }; half = half; octets = octets })
    else (octets_at octets >>= λ own. Ok (record {
      text = record { what = bits - 8; octets = Some own.0 };
      half = None;
      octets = own.1;
    }))

-- the next field stands in the half octet that is left, or begins the next octet
unfoldable pub field_at : Option ℕ → List ℕ → Result ReadField IfpFault
field_at (Some half) octets = field_of half None octets
field_at None (octet ∷ octets) = field_of (octet / 16) (Some (octet % 16)) octets
field_at None [] = Err Short

-- n fields; octets after the last are not read (own)
unfoldable pub fields_at : ℕ → Option ℕ → List ℕ → Result (List FieldText) IfpFault
fields_at zero half octets = Ok []
fields_at (suc n) half octets = do
  field ← field_at half octets
  others ← fields_at n field.half field.octets
  Ok (field.text ∷ others)

-- fields after the octet that counts them, from 0 (own) to 127 (own)
abbrev pub counted_fields : List ℕ → Result (List FieldText) IfpFault
counted_fields [] = Err Short
counted_fields (count ∷ octets) =
    if nat_lt 127 count then Err BadCount else fields_at count None octets

-- the fields after a first octet, whose bit 7 says whether there are some
unfoldable pub fields_after : ℕ → List ℕ → Result (List FieldText) IfpFault
fields_after first octets = if bit first 7 then counted_fields octets else Ok []

-- a first octet that is no extension: bit 6 says that it is data, bits 4 to 1 are the indicator or the type of the data
abbrev pub packet_from : ℕ → List ℕ → Result Packet IfpFault
packet_from first octets = let value = first / 2 % 16 in if bit first 6 then (if nat_lt 8 value
    then Err BadValue else (fields_after first octets >>= λ fields. Ok (Message value fields)))
    else (fields_after first octets >>= λ fields. Ok (Indicator value))

-- the packet that octets are, or what is wrong with them; bit 5 of the first octet marks an extension. Fields of an
-- indicator have no meaning (own)
unfoldable pub packet_of : List ℕ → Result Packet IfpFault
packet_of [] = Err Short
packet_of (first ∷ octets) = if bit first 5 then Err Extension else packet_from first octets

-- these octets are data with more than eight fields
abbrev pub HasNinthField : List ℕ → Type 0
HasNinthField octets = (kind : ℕ) × (fields : List FieldText)
    × (packet_of octets ≡ Ok (Message kind fields)) × (8 < length fields)
