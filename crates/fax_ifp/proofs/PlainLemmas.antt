-- A packet of data with one field, from what the code tests of it.
use Rattle.std.proofs.Common.{◌≡◌, ℕ, ◌+◌, ◌-◌, ◌*◌, ◌/◌, ◌%◌, ◌≤◌, nat_lt, nat_eq, Bool, true, false, List, [], ◌∷◌, length, take, drop, get_or, Option, Some, None, Result, Ok, Err, if◌then◌else◌, refl, sym, ◌∙◌, ap, arith, add-one}
use Rattle.fax_bits.specs.Bits.{bit}
use Rattle.fax_ifp.specs.declared.fault.IfpFault.{IfpFault}
use Rattle.fax_ifp.specs.declared.fault.IfpFault.TheVariants.{Short, Extension, BadValue, BadCount}
use Rattle.fax_ifp.specs.Packets.{FieldText, ReadField, Packet, Indicator, Message, ◌>>=◌, octets_at, field_at, fields_at, fields_after, packet_of}
use Rattle.fax_ifp.specs.Pieces.{has_octet}
use Rattle.fax_ifp.proofs.ReadingLemmas.{rest_from, rest_from-drop}
use Rattle.fax_ifp.proofs.FieldsLemmas.{one_more}

-- the octets are such a packet
pub record IsData (xs : List ℕ) (kind : ℕ) (fields : List FieldText) : Type 0 where
  pub there : 1 ≤ length xs
  pub known : bit (get_or xs 0 0) 5 ≡ false
  pub tells : bit (get_or xs 0 0) 6 ≡ true
  pub value : get_or xs 0 0 / 2 % 16 ≡ kind
  pub few : kind ≤ 8
  pub read : fields_after (get_or xs 0 0) (rest_from 1 xs) ≡ Ok fields

above : (m n : ℕ) → nat_lt m n ≡ false → n ≤ m
above m n e = grind (arith)

record Tests (e d b : Bool) (r : Result (List FieldText) IfpFault) (v kind : ℕ) (fields : List FieldText) : Type 0 where
  no : e ≡ false
  yes : d ≡ true
  low : b ≡ false
  same : v ≡ kind
  read : r ≡ Ok fields

tests : (e d b : Bool) (r : Result (List FieldText) IfpFault) (v kind : ℕ) (fields : List FieldText)
    → if◌then◌else◌ {A = Result Packet IfpFault} e (Err Extension) (if d then (if b then Err BadValue else (r >>= λ fs. Ok (Message v fs))) else (r >>= λ fs. Ok (Indicator v))) ≡ Ok (Message kind fields)
    → Tests e d b r v kind fields
tests true d b r v kind fields h = cc
tests false true true r v kind fields h = cc
tests false true false (Ok fs) v kind fields h =
    let same : v ≡ kind = cc in
    let all : fs ≡ fields = cc in
    record { no = refl; yes = refl; low = refl; same = same; read = rw all refl }
tests false true false (Err fault) v kind fields h = cc
tests false false b (Ok fs) v kind fields h = cc
tests false false b (Err fault) v kind fields h = cc

pub is_data : (xs : List ℕ) (kind : ℕ) (fields : List FieldText) → packet_of xs ≡ Ok (Message kind fields) → IsData xs kind fields
unfolding packet_of
is_data [] kind fields h = cc
is_data (x ∷ xs) kind fields h =
    let t = tests (bit x 5) (bit x 6) (nat_lt 8 (x / 2 % 16)) (fields_after x xs) (x / 2 % 16) kind fields h in
    let low : x / 2 % 16 ≤ 8 = above 8 (x / 2 % 16) t.low in
    record {
      there = omega arith;
      known = t.no;
      tells = t.yes;
      value = t.same;
      few = omega (arith, t.same);
      read = ap (fields_after x) (rest_from-drop 1 (x ∷ xs)) ∙ t.read;
    }

-- one field is read
pub one_read : (xs : List ℕ) (read : ReadField) → Ok read ≡ field_at None xs → fields_at 1 None xs ≡ Ok (read.text ∷ [])
unfolding fields_at
one_read xs read e = one_more 0 None xs ∙ ap (λ (r : Result ReadField IfpFault). r >>= λ f. fields_at 0 f.half f.octets >>= λ others. Ok (f.text ∷ others)) (sym e)

pub one_fault : (xs : List ℕ) (fault : IfpFault) → Err fault ≡ field_at None xs → fields_at 1 None xs ≡ Err fault
one_fault xs fault e = one_more 0 None xs ∙ ap (λ (r : Result ReadField IfpFault). r >>= λ f. fields_at 0 f.half f.octets >>= λ others. Ok (f.text ∷ others)) (sym e)

-- a field with octets has one at least
own_by : (a b : Bool) (word : ℕ) (xs : List ℕ) (own rest : List ℕ) → b ≡ nat_lt (length xs) (word + 1)
    → if◌then◌else◌ {A = Result (List ℕ × List ℕ) IfpFault} a (Err BadCount) (if b then Err Short else Ok (take (word + 1) xs, drop (word + 1) xs)) ≡ Ok (own, rest) → has_octet own ≡ true
own_by true b word xs own rest e h = cc
own_by false true word xs own rest e h = cc
own_by false false word [] own rest e h = let l : word + 1 ≤ 0 = above 0 (word + 1) (sym e) in absurd (omega arith)
own_by false false word (x ∷ xs) own rest e h =
    let pair : (take (word + 1) (x ∷ xs), drop (word + 1) (x ∷ xs)) ≡ (own, rest) = cc in
    let same : take (word + 1) (x ∷ xs) ≡ own = ap (λ (p : List ℕ × List ℕ). p.0) pair in
    rw (← same, add-one) refl

own_octet : (xs own rest : List ℕ) → octets_at xs ≡ Ok (own, rest) → has_octet own ≡ true
unfolding octets_at
own_octet [] own rest h = cc
own_octet (high ∷ []) own rest h = cc
own_octet (high ∷ low ∷ xs) own rest h =
    own_by (nat_eq (256 * high + low) 65535) (nat_lt (length xs) (256 * high + low + 1)) (256 * high + low) xs own rest refl h

field_octet : (a : Bool) (bits : ℕ) (half : Option ℕ) (xs : List ℕ) (own : Result (List ℕ × List ℕ) IfpFault) (read : ReadField) (octets : List ℕ)
    → ((os rest : List ℕ) → own ≡ Ok (os, rest) → has_octet os ≡ true)
    → if◌then◌else◌ {A = Result ReadField IfpFault} a (Ok (record { text = record { what = bits; octets = None }; half = half; octets = xs })) (own >>= λ o. Ok (record { text = record { what = bits - 8; octets = Some o.0 }; half = None; octets = o.1 })) ≡ Ok read
    → read.text.octets ≡ Some octets → has_octet octets ≡ true
field_octet true bits half xs own read octets k h s =
    let is : read ≡ record { text = record { what = bits; octets = None }; half = half; octets = xs } = cc in
    let own_is : None ≡ Some octets = ap (λ (r : ReadField). r.text.octets) (sym is) ∙ s in
    cc
field_octet false bits half xs (Ok o) read octets k h s =
    let is : read ≡ record { text = record { what = bits - 8; octets = Some o.0 }; half = None; octets = o.1 } = cc in
    let own_is : Some o.0 ≡ Some octets = ap (λ (r : ReadField). r.text.octets) (sym is) ∙ s in
    let same : octets ≡ o.0 = cc in
    rw same (k o.0 o.1 refl)
field_octet false bits half xs (Err fault) read octets k h s = cc

pub read_octet : (xs : List ℕ) (read : ReadField) (octets : List ℕ) → Ok read ≡ field_at None xs → read.text.octets ≡ Some octets → has_octet octets ≡ true
unfolding field_at
read_octet [] read octets e s = cc
read_octet (x ∷ xs) read octets e s =
    field_octet (nat_lt (x / 16) 8) (x / 16) (Some (x % 16)) xs (octets_at xs) read octets (own_octet xs) (sym e) s
