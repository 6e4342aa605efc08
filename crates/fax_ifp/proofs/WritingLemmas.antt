-- Fields that are written one after another.
use Rattle.std.proofs.Common.{◌≡◌, ℕ, suc, ◌+◌, ◌*◌, ◌<◌, ◌≤◌, Bool, true, false, List, [], ◌∷◌, ◌++◌, length, drop, get_or, Option, Some, None, IfSome, is_some, refl, sym, ◌∙◌, ap, subst, arith, append_assoc, length-append, add-one, if◌then◌else◌}
use Rattle.std.proofs.Math.ListN.{get_or-map}
use Rattle.std.proofs.Math.Seq.{drop-cons}
use Rattle.std.proofs.lemmas.List.{drop_all}
use Rattle.std.specs.List.{All}
use Rattle.std.specs.Option.{ForSome}
use Rattle.fax_ifp.specs.declared.packet.Field.{Field}
use Rattle.fax_ifp.specs.Packets.{FieldText}
use Rattle.fax_ifp.specs.Seen.{text_of, texts_of}
use Rattle.fax_ifp.specs.Inside.Halves.{half_after, added}
use Rattle.fax_ifp.specs.PacketLaws.{IndicatorsHaveOneOctet, FramesHaveSixMore, ImagesHaveFiveMore}
use Rattle.fax_ifp.specs.WrittenPackets.{four_bits, counted, written_after, written_fields, IsWritableField}

-- field i
abbrev pub field_of_index : List Field → ℕ → Field
field_of_index fields i = get_or fields i (record { what = 0; octets = None })

pub length-texts : (fields : List Field) → length (texts_of fields) ≡ length fields
length-texts [] = refl
length-texts (field ∷ fields) = ap suc (length-texts fields)

pub each_at : (fields : List Field) (i : ℕ) → All IsWritableField (texts_of fields) → i < length fields → IsWritableField (text_of (field_of_index fields i))
each_at fields i all h =
    subst IsWritableField (get_or-map text_of fields i (record { what = 0; octets = None }))
    (all i (text_of (record { what = 0; octets = None })) (omega (arith, length-texts fields)))

rest_is : (fields : List Field) (i : ℕ) → i < length fields → texts_of (drop i fields) ≡ text_of (field_of_index fields i) ∷ texts_of (drop (i + 1) fields)
rest_is fields i h = ap texts_of (drop-cons fields i (record { what = 0; octets = None }) h) ∙ rw add-one refl

-- a field adds its octets, and the others stand after it
written_one : (half : Option ℕ) (field : FieldText) (rest : List FieldText) → written_after half (field ∷ rest) ≡ added half field ++ written_after (half_after half field) rest
unfolding written_after
written_one (Some bits) field rest = refl
written_one None field rest = by (is_some field.octets) (16 * four_bits field ∷ counted field.octets)
  where
    by : (b : Bool) (own : List ℕ) → (if b then (own ++ written_after None rest) else written_after (Some field.what) rest) ≡ (if b then own else []) ++ written_after (if b then None else Some field.what) rest
    by true own = refl
    by false own = refl

pub written_step : (half : Option ℕ) (fields : List Field) (i : ℕ) → i < length fields →
    written_after half (texts_of (drop i fields))
    ≡ added half (text_of (field_of_index fields i)) ++ written_after (half_after half (text_of (field_of_index fields i))) (texts_of (drop (i + 1) fields))
written_step half fields i h = ap (written_after half) (rest_is fields i h) ∙ written_one half (text_of (field_of_index fields i)) (texts_of (drop (i + 1) fields))

no_rest : (fields : List Field) (i : ℕ) → length fields ≤ i → texts_of (drop i fields) ≡ []
no_rest fields i h = ap texts_of (drop_all i fields h)

-- the octets after the last field
abbrev pub last_octet : Option ℕ → List ℕ
last_octet None = []
last_octet (Some bits) = 16 * bits ∷ []

written_none : (half : Option ℕ) → written_after half [] ≡ last_octet half
unfolding written_after
written_none None = refl
written_none (Some bits) = refl

pub written_end : (half : Option ℕ) (fields : List Field) (i : ℕ) → length fields ≤ i → written_after half (texts_of (drop i fields)) ≡ last_octet half
written_end half fields i h = ap (written_after half) (no_rest fields i h) ∙ written_none half

pub half-few : (half : Option ℕ) (field : FieldText) → IsWritableField field → ForSome (half_after half field) (λ half. half ≤ 7)
half-few (Some bits) field w = λ x e. cc
half-few None field w = by (is_some field.octets)
  where
    by : (b : Bool) → ForSome (if◌then◌else◌ {A = Option ℕ} b None (Some field.what)) (λ half. half ≤ 7)
    by true = λ x e. cc
    by false = λ x e. let same : x ≡ field.what = cc in omega (arith, w.what)

counted-few : (octets : Option (List ℕ)) → IfSome octets (λ own. (1 ≤ length own) × (length own ≤ 65535)) → length (counted octets) ≤ 65537
counted-few None h = omega arith
counted-few (Some own) h = omega (arith, h.1)

pub added-few : (half : Option ℕ) (field : FieldText) → IsWritableField field → length (added half field) ≤ 65538
added-few (Some bits) field w = omega (arith, counted-few field.octets w.octets)
added-few None field w = by (is_some field.octets) (16 * four_bits field ∷ counted field.octets) (omega (arith, counted-few field.octets w.octets))
  where
    by : (b : Bool) (own : List ℕ) → length own ≤ 65538 → length (if b then own else []) ≤ 65538
    by true own h = h
    by false own h = omega arith

-- the text so far, and how long it is
pub text_more : (a b c d e : List ℕ) → a ++ b ≡ e → b ≡ c ++ d → (a ++ c) ++ d ≡ e
text_more a b c d e h k = append_assoc a c d ∙ ap (λ (x : List ℕ). a ++ x) (sym k) ∙ h

pub text_room : (a b c d e f : List ℕ) → a ++ b ≡ e ++ f → b ≡ c ++ d → length a + length c ≤ length e + length f
text_room a b c d e f h k =
    omega (arith, ap length h, length-append a b, length-append e f, ap length k, length-append c d)

-- how long packets are, whatever the types of their fields
pub frame_octets : (what end : ℕ) (frame : List ℕ) →
    length (written_fields (record { what = what; octets = Some frame } ∷ record { what = end; octets = None } ∷ [])) ≡ 4 + length frame
unfolding written_after
frame_octets what end frame = omega (arith, length-append frame (16 * end ∷ []))

pub image_octets : (what : ℕ) (own : List ℕ) → length (written_fields (record { what = what; octets = Some own } ∷ [])) ≡ 3 + length own
unfolding written_after
image_octets what own = omega (arith, length-append own [])

pub indicator_length : IndicatorsHaveOneOctet
indicator_length code = refl

pub frame_length : FramesHaveSixMore
frame_length frame = omega (arith, frame_octets 0 4 frame)

pub image_length : ImagesHaveFiveMore
image_length kind last octets = omega (arith, image_octets (if last then 7 else 6) octets)
