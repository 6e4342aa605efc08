-- What the fields of a packet say, one after the other.
use Rattle.std.proofs.Common.{◌≡◌, ℕ, ◌+◌, ◌≤◌, ◌<◌, List, [], ◌∷◌, ◌++◌, map, reverse, take, length, get_or, Ok, Err, ◌≢◌, Option, Some, None, unwrap_or, refl, ◌∙◌, ap, Bor, arith}
use Rattle.std.proofs.lemmas.List.{map-append, reverse-append, take_more}
use Rattle.fax_ifp.specs.declared.packet.Field.{Field}
use Rattle.fax_ifp.specs.Packets.{Packet, Indicator, Message}
use Rattle.fax_ifp.specs.Seen.{text_of, texts_of, octets_in, head_of, fields_in}
use Rattle.fax_ifp.specs.declared.packet.Head.TheVariants as heads
use Rattle.fax_ifp.specs.Elements.{Element, Missing, Signal, element_of, elements_in}
use Rattle.fax_ifp.specs.declared.fault.IfpFault.{IfpFault}
use Rattle.fax_ifp.specs.declared.fault.IfpFault.TheVariants as faults
use Rattle.fax_ifp.specs.Pieces.{Image}
use Rattle.fax_ifp.specs.Inside.Hearing.{images_in}

-- the octets of a field, none where they are not present
pub octets_or_none : (octets : Option (Bor (List ℕ))) (none : Bor (List ℕ)) → none.now ≡ [] → (unwrap_or octets none).now ≡ unwrap_or (octets_in octets) []
octets_or_none None none h = h
octets_or_none (Some octets) none h = refl

-- at most one image is open
pub images_in_one : (image : Option Image) → images_in image ≤ 1
images_in_one None = omega arith
images_in_one (Some image) = omega arith

-- the elements of these fields, the newest first
abbrev pub heard_of : ℕ → List Field → List Element
heard_of kind fields = reverse (map (element_of kind) (texts_of fields))

pub heard_of-more : (kind : ℕ) (fields : List Field) (field : Field) → heard_of kind (fields ++ field ∷ []) ≡ element_of kind (text_of field) ∷ heard_of kind fields
heard_of-more kind fields field =
    ap (λ (ts : List Element). reverse ts) (ap (map (element_of kind)) (map-append text_of fields (field ∷ [])) ∙ map-append (element_of kind) (texts_of fields) (texts_of (field ∷ [])))
    ∙ reverse-append (map (element_of kind) (texts_of fields)) (element_of kind (text_of field) ∷ [])

-- one more field
pub heard_of-take : (kind : ℕ) (fields : List Field) (i : ℕ) (none : Field) → i < length fields → heard_of kind (take (i + 1) fields) ≡ element_of kind (text_of (get_or fields i none)) ∷ heard_of kind (take i fields)
heard_of-take kind fields i none lt = ap (heard_of kind) (take_more fields i none lt) ∙ heard_of-more kind (take i fields) (get_or fields i none)

-- what a packet says, by its head
pub indicator_said : (packet : Packet) (code : ℕ) → head_of packet ≡ heads.Indicator code → elements_in (Ok packet) ≡ Signal code ∷ []
indicator_said (Indicator c) code h = cc
indicator_said (Message kind fields) code h = cc

pub message_said : (packet : Packet) (kind : ℕ) → head_of packet ≡ heads.Message kind → elements_in (Ok packet) ≡ map (element_of kind) (fields_in packet)
message_said (Indicator c) kind h = cc
message_said (Message k fields) kind h = let e : k ≡ kind = cc in rw e

-- a packet that is refused, but not as an extension, is missing
pub refusal_said : (fault : IfpFault) → fault ≢ faults.Extension → elements_in (Err fault) ≡ Missing ∷ []
refusal_said faults.Short n = refl
refusal_said faults.Extension n = absurd (n refl)
refusal_said faults.BadValue n = refl
refusal_said faults.BadCount n = refl
refusal_said faults.NoMemory n = refl
