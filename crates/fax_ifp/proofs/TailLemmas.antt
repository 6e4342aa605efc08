-- Octets after what is read are not read.
use Rattle.std.proofs.Common.{◌≡◌, ◌≢◌, ℕ, zero, suc, ◌+◌, ◌-◌, ◌*◌, ◌/◌, ◌%◌, ◌≤◌, nat_eq, nat_lt, Bool, true, false, List, [], ◌∷◌, ◌++◌, length, take, drop, Option, Some, None, Result, Ok, Err, refl, ◌∙◌, ap, ap₂, arith, length-append, if◌then◌else◌}
use Rattle.std.proofs.lemmas.List.{take-append-le, drop-append-le}
use Rattle.fax_bits.specs.Bits.{bit}
use Rattle.fax_ifp.specs.declared.fault.IfpFault.{IfpFault}
use Rattle.fax_ifp.specs.declared.fault.IfpFault.TheVariants.{BadCount, BadValue, Short, Extension}
use Rattle.fax_ifp.specs.Packets.{FieldText, ReadField, Packet, Indicator, Message, ◌>>=◌, octets_by, octets_at, field_of, field_at, fields_at, counted_fields, fields_after, packet_from, packet_of}
use Rattle.fax_ifp.specs.PacketLaws.{OctetsAfterAreNotRead}
use Rattle.fax_ifp.proofs.ReadingLemmas.{octets_by_all}

unequal : (m n : ℕ) → nat_eq m n ≡ false → m ≢ n
unequal m n h = grind (arith)

reaches : (m n : ℕ) → nat_lt m n ≡ false → n ≤ m
reaches m n h = grind (arith)

-- octets were read: neither test told a fault
untold : (a b : Bool) (own q : List ℕ × List ℕ) → if◌then◌else◌ {A = Result (List ℕ × List ℕ) IfpFault} a (Err BadCount) (if b then Err Short else Ok own) ≡ Ok q →
    (a ≡ false) × (b ≡ false) × (own ≡ q)
untold true b own q e = cc
untold false true own q e = cc
untold false false own q e = (refl, refl, cc)

octets_by-tail : (word : ℕ) (octets more : List ℕ) (read : List ℕ × List ℕ) → octets_by word octets ≡ Ok read → octets_by word (octets ++ more) ≡ Ok (read.0, read.1 ++ more)
octets_by-tail word octets more read e =
    let told = untold (nat_eq word 65535) (nat_lt (length octets) (word + 1)) (take (word + 1) octets, drop (word + 1) octets) read e in
    let there : word + 1 ≤ length octets = reaches (length octets) (word + 1) told.1 in
    let pair : List ℕ → List ℕ → Result (List ℕ × List ℕ) IfpFault = λ x y. Ok (x, y) in
    octets_by_all word (octets ++ more) (unequal word 65535 told.0) (omega (arith, length-append octets more))
    ∙ ap₂ pair (take-append-le (word + 1) octets more there) (drop-append-le (word + 1) octets more there)
    ∙ ap (λ (r : List ℕ × List ℕ). pair r.0 (r.1 ++ more)) told.2

octets_at-tail : (octets more : List ℕ) (read : List ℕ × List ℕ) → octets_at octets ≡ Ok read → octets_at (octets ++ more) ≡ Ok (read.0, read.1 ++ more)
unfolding octets_at
octets_at-tail [] more read e = cc
octets_at-tail (high ∷ []) more read e = cc
octets_at-tail (high ∷ low ∷ octets) more read e = octets_by-tail (256 * high + low) octets more read e

-- a field that was read, with more octets after it
abbrev with_tail : List ℕ → ReadField → Result ReadField IfpFault
with_tail more field = Ok (record { text = field.text; half = field.half; octets = field.octets ++ more })

field_of-tail : (bits : ℕ) (half : Option ℕ) (octets more : List ℕ) (field : ReadField) → field_of bits half octets ≡ Ok field → field_of bits half (octets ++ more) ≡ with_tail more field
field_of-tail bits half octets more field e = by (nat_lt bits 8) (octets_at octets) refl e
  where
    text : List ℕ × List ℕ → ReadField
    text own = record { text = record { what = bits - 8; octets = Some own.0 }; half = None; octets = own.1 }

    alone : List ℕ → ReadField
    alone rest = record { text = record { what = bits; octets = None }; half = half; octets = rest }

    by : (few : Bool) (own : Result (List ℕ × List ℕ) IfpFault) → octets_at octets ≡ own
        → if◌then◌else◌ {A = Result ReadField IfpFault} few (Ok (alone octets)) (own >>= λ o. Ok (text o)) ≡ Ok field
        → if◌then◌else◌ {A = Result ReadField IfpFault} few (Ok (alone (octets ++ more))) (octets_at (octets ++ more) >>= λ o. Ok (text o)) ≡ with_tail more field
    by true own h k = let same : alone octets ≡ field = cc in ap (with_tail more) same
    by false (Ok own) h k = let same : text own ≡ field = cc in rw (octets_at-tail octets more own h) (ap (with_tail more) same)
    by false (Err fault) h k = cc

field_at-tail : (half : Option ℕ) (octets more : List ℕ) (field : ReadField) → field_at half octets ≡ Ok field → field_at half (octets ++ more) ≡ with_tail more field
unfolding field_at
field_at-tail (Some bits) octets more field e = field_of-tail bits None octets more field e
field_at-tail None [] more field e = cc
field_at-tail None (octet ∷ octets) more field e = field_of-tail (octet / 16) (Some (octet % 16)) octets more field e

fields_at-tail : (n : ℕ) (half : Option ℕ) (octets more : List ℕ) (fields : List FieldText) → fields_at n half octets ≡ Ok fields → fields_at n half (octets ++ more) ≡ Ok fields
unfolding fields_at
fields_at-tail zero half octets more fields e = e
fields_at-tail (suc n) half octets more fields e = by (field_at half octets) refl (λ half octets fields e. fields_at-tail n half octets more fields e) e
  where
    after : (field : FieldText) (half : Option ℕ) (octets : List ℕ) (others : Result (List FieldText) IfpFault) → fields_at n half octets ≡ others →
        ((fields : List FieldText) → fields_at n half octets ≡ Ok fields → fields_at n half (octets ++ more) ≡ Ok fields) →
        (others >>= λ xs. Ok (field ∷ xs)) ≡ Ok fields → (fields_at n half (octets ++ more) >>= λ xs. Ok (field ∷ xs)) ≡ Ok fields
    after field half octets (Ok others) h more_of k = rw (more_of others h) k
    after field half octets (Err fault) h more_of k = cc

    by : (read : Result ReadField IfpFault) → field_at half octets ≡ read →
        ((half : Option ℕ) (octets : List ℕ) (fields : List FieldText) → fields_at n half octets ≡ Ok fields → fields_at n half (octets ++ more) ≡ Ok fields) →
        (read >>= λ f. fields_at n f.half f.octets >>= λ xs. Ok (f.text ∷ xs)) ≡ Ok fields →
        (field_at half (octets ++ more) >>= λ f. fields_at n f.half f.octets >>= λ xs. Ok (f.text ∷ xs)) ≡ Ok fields
    by (Ok field) h more_of k =
        rw (field_at-tail half octets more field h) (after field.text field.half field.octets (fields_at n field.half field.octets) refl (more_of field.half field.octets) k)
    by (Err fault) h more_of k = cc

counted_fields-tail : (octets more : List ℕ) (fields : List FieldText) → counted_fields octets ≡ Ok fields → counted_fields (octets ++ more) ≡ Ok fields
counted_fields-tail [] more fields e = cc
counted_fields-tail (count ∷ octets) more fields e = by (nat_lt 127 count) e
  where
    by : (many : Bool) → if◌then◌else◌ {A = Result (List FieldText) IfpFault} many (Err BadCount) (fields_at count None octets) ≡ Ok fields →
        if◌then◌else◌ {A = Result (List FieldText) IfpFault} many (Err BadCount) (fields_at count None (octets ++ more)) ≡ Ok fields
    by true k = cc
    by false k = fields_at-tail count None octets more fields k

fields_after-tail : (first : ℕ) (octets more : List ℕ) (fields : List FieldText) → fields_after first octets ≡ Ok fields → fields_after first (octets ++ more) ≡ Ok fields
unfolding fields_after
fields_after-tail first octets more fields e = by (bit first 7) e
  where
    by : (some : Bool) → if◌then◌else◌ {A = Result (List FieldText) IfpFault} some (counted_fields octets) (Ok []) ≡ Ok fields →
        if◌then◌else◌ {A = Result (List FieldText) IfpFault} some (counted_fields (octets ++ more)) (Ok []) ≡ Ok fields
    by true k = counted_fields-tail octets more fields k
    by false k = k

then-tail : (first : ℕ) (octets more : List ℕ) (say : List FieldText → Packet) (packet : Packet) →
    (fields_after first octets >>= λ fields. Ok (say fields)) ≡ Ok packet → (fields_after first (octets ++ more) >>= λ fields. Ok (say fields)) ≡ Ok packet
then-tail first octets more say packet e = by (fields_after first octets) refl e
  where
    by : (read : Result (List FieldText) IfpFault) → fields_after first octets ≡ read → (read >>= λ fields. Ok (say fields)) ≡ Ok packet →
        (fields_after first (octets ++ more) >>= λ fields. Ok (say fields)) ≡ Ok packet
    by (Ok fields) h k = rw (fields_after-tail first octets more fields h) k
    by (Err fault) h k = cc

packet_from-tail : (first : ℕ) (octets more : List ℕ) (packet : Packet) → packet_from first octets ≡ Ok packet → packet_from first (octets ++ more) ≡ Ok packet
packet_from-tail first octets more packet e = by (bit first 6) (nat_lt 8 (first / 2 % 16)) e
  where
    value : ℕ
    value = first / 2 % 16

    read : List ℕ → (List FieldText → Packet) → Result Packet IfpFault
    read rest say = fields_after first rest >>= λ fields. Ok (say fields)

    by : (is_data high : Bool)
        → if◌then◌else◌ {A = Result Packet IfpFault} is_data (if high then Err BadValue else read octets (λ fields. Message value fields)) (read octets (λ fields. Indicator value)) ≡ Ok packet
        → if◌then◌else◌ {A = Result Packet IfpFault} is_data (if high then Err BadValue else read (octets ++ more) (λ fields. Message value fields)) (read (octets ++ more) (λ fields. Indicator value)) ≡ Ok packet
    by true true k = cc
    by true false k = then-tail first octets more (λ fields. Message value fields) packet k
    by false high k = then-tail first octets more (λ fields. Indicator value) packet k

pub octets_after : OctetsAfterAreNotRead
unfolding packet_of
octets_after [] more packet e = cc
octets_after (first ∷ octets) more packet e = by (bit first 5) e
  where
    by : (later : Bool) → if◌then◌else◌ {A = Result Packet IfpFault} later (Err Extension) (packet_from first octets) ≡ Ok packet →
        if◌then◌else◌ {A = Result Packet IfpFault} later (Err Extension) (packet_from first (octets ++ more)) ≡ Ok packet
    by true k = cc
    by false k = packet_from-tail first octets more packet k
