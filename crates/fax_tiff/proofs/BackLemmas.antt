-- Numbers, parts and fields that were written are read back.
use Rattle.std.proofs.Common.{◌≡◌, ◌≢◌, ℕ, zero, suc, ◌+◌, ◌-◌, ◌*◌, ◌^◌, ◌<◌, ◌≤◌, ◌==◌, nat_lt, nat_eq, Bool, true, false, if◌then◌else◌, List, [], ◌∷◌, ◌++◌, length, take, drop, flat_map, Option, Some, None, Ok, Err, refl, sym, ◌∙◌, ap, subst, arith, append_assoc, append-nil, length-append, eq-eqb}
use Rattle.std.specs.Int.{w16, w32, from_le_bytes, to_le_bytes}
use Rattle.std.proofs.lemmas.Bool.{ne_eqb, le-ltb}
use Rattle.std.proofs.lemmas.List.{drop_at, take_at, take-append-le, drop-append-le}
use Rattle.std.proofs.lemmas.Nat.{from_le_bytes-to_le_bytes_2, from_le_bytes-to_le_bytes_4}
use Rattle.fax_tiff.specs.declared.field.Field.{Field}
use Rattle.fax_tiff.specs.declared.field.FieldValue.{FieldValue}
use Rattle.fax_tiff.specs.declared.field.FieldValue.TheVariants.{Short, Shorts, Long, Rational}
use Rattle.fax_tiff.specs.declared.number.ByteOrder.TheVariants.{Little}
use Rattle.fax_tiff.specs.declared.fault.TiffFault.{TiffFault}
use Rattle.fax_tiff.specs.declared.fault.TiffFault.TheVariants.{Cut}
use Rattle.fax_tiff.specs.Directories.{entry_of, number_16, number_32, number_in, part_of}
use Rattle.fax_tiff.specs.WrittenTiffs.{field, field_octets, value_octets}

-- ---- numbers

four_octets : (a b c d : ℕ) → number_32 Little (a ∷ b ∷ c ∷ d ∷ []) 0 ≡ from_le_bytes w32 (a ∷ b ∷ c ∷ d ∷ [])
unfolding number_32 number_16
four_octets a b c d = omega arith

two_octets : (a b : ℕ) → number_16 Little (a ∷ b ∷ []) 0 ≡ from_le_bytes w16 (a ∷ b ∷ [])
unfolding number_16
two_octets a b = omega arith

-- a number of 16 bits
pub number_16_back : (n : ℕ) → n < 2 ^ 16 → number_16 Little (to_le_bytes w16 n) 0 ≡ n
number_16_back n few = two_octets _ _ ∙ from_le_bytes-to_le_bytes_2 n few

-- one of 32 bits
pub number_32_back : (n : ℕ) → n < 2 ^ 32 → number_32 Little (to_le_bytes w32 n) 0 ≡ n
number_32_back n few = four_octets _ _ _ _ ∙ from_le_bytes-to_le_bytes_4 n few

-- ---- parts

-- a part that stands there is read
pub part_back : (octets before part after : List ℕ) (place count : ℕ) → octets ≡ before ++ (part ++ after) → length before ≡ place → length part ≡ count
    → part_of octets place count ≡ Ok part
unfolding part_of
part_back octets before part after place count e at size =
    let whole : length octets ≡ place + (count + length after) = ap length e ∙ length-append before (part ++ after) ∙ ap (λ (n : ℕ). length before + n) (length-append part after) ∙ omega arith in
    let found : take count (drop place octets) ≡ part = ap (λ (o : List ℕ). take count (drop place o)) e ∙ ap (λ (o : List ℕ). take count o) (drop_at before (part ++ after) place at) ∙ take_at part after count size in
    ap (λ b. if b then Err Cut else Ok (take count (drop place octets))) (le-ltb (length octets) (place + count) (omega arith))
    ∙ ap (λ (o : List ℕ). Ok o) found

-- ---- fields

field_size : (tag : ℕ) (value : FieldValue) → length (field_octets (field tag value)) ≡ 12
unfolding field_octets value_octets
field_size tag (Short n) = refl
field_size tag (Shorts n m) = refl
field_size tag (Long n) = refl
field_size tag (Rational place) = refl

length-field : (f : Field) → length (field_octets f) ≡ 12
length-field f = field_size f.tag f.value

tag_back : (tag : ℕ) (value : FieldValue) → tag < 2 ^ 16 → number_16 Little (field_octets (field tag value)) 0 ≡ tag
unfolding field_octets number_16
tag_back tag value few = number_16_back tag few

-- the first field of a tag
abbrev pub first_of : (tag : ℕ) → List Field → Option (List ℕ)
first_of tag [] = None
first_of tag (f ∷ fields) = if f.tag == tag then Some (field_octets f) else first_of tag fields

-- each tag has 16 bits
abbrev pub HaveTags : List Field → Type 0
HaveTags [] = Unit {0}
HaveTags (f ∷ fields) = (f.tag < 2 ^ 16) × HaveTags fields

entry_at : (tag n : ℕ) (entries : List ℕ) → entry_of Little tag (suc n) entries ≡ (if number_16 Little (take 12 entries) 0 == tag then Some (take 12 entries) else entry_of Little tag n (drop 12 entries))
unfolding entry_of
entry_at tag n entries = refl

entries_end : (tag : ℕ) (entries : List ℕ) → entry_of Little tag 0 entries ≡ None
unfolding entry_of
entries_end tag entries = refl

-- the field of a tag is found among those that were written
pub field_back : (tag : ℕ) (fields : List Field) → HaveTags fields → entry_of Little tag (length fields) (flat_map field_octets fields) ≡ first_of tag fields
field_back tag [] have = entries_end tag []
field_back tag (f ∷ fields) have =
    entry_at tag (length fields) (field_octets f ++ flat_map field_octets fields)
    ∙ ap (λ (o : List ℕ). if number_16 Little o 0 == tag then Some o else entry_of Little tag (length fields) (drop 12 (field_octets f ++ flat_map field_octets fields)))
    (take_at (field_octets f) (flat_map field_octets fields) 12 (length-field f))
    ∙ ap (λ (n : ℕ). if n == tag then Some (field_octets f) else entry_of Little tag (length fields) (drop 12 (field_octets f ++ flat_map field_octets fields))) (tag_back f.tag f.value have.0)
    ∙ ap (λ (o : List ℕ). if f.tag == tag then Some (field_octets f) else entry_of Little tag (length fields) o) (drop_at (field_octets f) (flat_map field_octets fields) 12 (length-field f))
    ∙ ap (λ (o : Option (List ℕ)). if f.tag == tag then Some (field_octets f) else o) (field_back tag fields have.1)

-- ---- values

short_parts : (tag n : ℕ) → number_in Little tag (field_octets (field tag (Short n))) ≡ Ok (number_16 Little (to_le_bytes w16 n) 0)
unfolding number_in number_32 number_16 field_octets value_octets
short_parts tag n = refl

pub short_back : (tag n : ℕ) → n < 2 ^ 16 → number_in Little tag (field_octets (field tag (Short n))) ≡ Ok n
short_back tag n few = short_parts tag n ∙ ap (λ (m : ℕ). Ok m) (number_16_back n few)

long_parts : (tag n : ℕ) → number_in Little tag (field_octets (field tag (Long n))) ≡ Ok (number_32 Little (to_le_bytes w32 n) 0)
unfolding number_in number_32 number_16 field_octets value_octets
long_parts tag n = refl

pub long_back : (tag n : ℕ) → n < 2 ^ 32 → number_in Little tag (field_octets (field tag (Long n))) ≡ Ok n
long_back tag n few = long_parts tag n ∙ ap (λ (m : ℕ). Ok m) (number_32_back n few)
