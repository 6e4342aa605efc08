-- Fields that are read one after another.
use Rattle.std.proofs.Common.{◌≡◌, ℕ, zero, suc, ◌+◌, ◌-◌, ◌<◌, ◌≤◌, ◌*◌, ◌/◌, ◌%◌, ◌≢◌, nat_eq, nat_lt, Bool, true, false, take, drop, if◌then◌else◌, List, [], ◌∷◌, ◌++◌, length, Option, Some, None, Result, Ok, Err, refl, sym, ◌∙◌, ap, arith, append_assoc}
use Rattle.fax_ifp.specs.declared.fault.IfpFault.{IfpFault}
use Rattle.fax_ifp.specs.declared.fault.IfpFault.TheVariants.{NoMemory, Short, BadCount}
use Rattle.fax_ifp.specs.Packets.{FieldText, ReadField, ◌>>=◌, octets_at, field_of, field_at, fields_at}

-- the fields read so far, and then what is read of the others
abbrev pub with_front : List FieldText → Result (List FieldText) IfpFault → Result (List FieldText) IfpFault
with_front front read = read >>= λ others. Ok (front ++ others)

-- some fields were read, and this is what is read of the others
abbrev pub IsReadUpTo : (count index : ℕ) → List ℕ → List FieldText → Option ℕ → List ℕ → Type 0
IsReadUpTo count index octets front half rest = fields_at count None octets ≡ with_front front (fields_at (count - index) half rest)

with_front-more : (front : List FieldText) (field : FieldText) (read : Result (List FieldText) IfpFault) →
    with_front front (read >>= λ others. Ok (field ∷ others)) ≡ with_front (front ++ field ∷ []) read
with_front-more front field (Ok others) =
    let ok : List FieldText → Result (List FieldText) IfpFault = λ fields. Ok fields in
    ap ok (sym (append_assoc front (field ∷ []) others))
with_front-more front field (Err fault) = refl

with_front-nil : (read : Result (List FieldText) IfpFault) → read ≡ with_front [] read
with_front-nil (Ok others) = refl
with_front-nil (Err fault) = refl

-- what is read of one field and of the others
pub one_more : (n : ℕ) (half : Option ℕ) (rest : List ℕ) →
    fields_at (suc n) half rest ≡ (field_at half rest >>= λ field. fields_at n field.half field.octets >>= λ others. Ok (field.text ∷ others))
unfolding fields_at
one_more n half rest = refl

pub read_none : (count : ℕ) (octets : List ℕ) → IsReadUpTo count 0 octets [] None octets
read_none count octets =
    let all : count ≡ count - 0 = omega arith in
    with_front-nil (fields_at count None octets) ∙ ap (λ (n : ℕ). with_front [] (fields_at n None octets)) all

pub read_one : (count index : ℕ) (octets : List ℕ) (front : List FieldText) (half : Option ℕ) (rest : List ℕ) (field : ReadField) →
    index < count → Ok field ≡ field_at half rest → IsReadUpTo count index octets front half rest →
    IsReadUpTo count (index + 1) octets (front ++ field.text ∷ []) field.half field.octets
read_one count index octets front half rest field h e so_far =
    let more : count - index ≡ suc (count - (index + 1)) = omega arith in
    so_far
    ∙ ap (λ (n : ℕ). with_front front (fields_at n half rest)) more
    ∙ ap (with_front front) (one_more (count - (index + 1)) half rest ∙ ap (λ (r : Result ReadField IfpFault). r >>= λ f. fields_at (count - (index + 1)) f.half f.octets >>= λ others. Ok (f.text ∷ others)) (sym e))
    ∙ with_front-more front field.text (fields_at (count - (index + 1)) field.half field.octets)

pub read_fault : (count index : ℕ) (octets : List ℕ) (front : List FieldText) (half : Option ℕ) (rest : List ℕ) (fault : IfpFault) →
    index < count → Err fault ≡ field_at half rest → IsReadUpTo count index octets front half rest → fields_at count None octets ≡ Err fault
read_fault count index octets front half rest fault h e so_far =
    let more : count - index ≡ suc (count - (index + 1)) = omega arith in
    so_far
    ∙ ap (λ (n : ℕ). with_front front (fields_at n half rest)) more
    ∙ ap (with_front front) (one_more (count - (index + 1)) half rest ∙ ap (λ (r : Result ReadField IfpFault). r >>= λ f. fields_at (count - (index + 1)) f.half f.octets >>= λ others. Ok (f.text ∷ others)) (sym e))

nothing_more : (front : List FieldText) (half : Option ℕ) (rest : List ℕ) → with_front front (fields_at 0 half rest) ≡ Ok front
unfolding fields_at
nothing_more front half rest =
    let ok : List FieldText → Result (List FieldText) IfpFault = λ fields. Ok fields in
    ap ok (nil front)
  where
    nil : (xs : List FieldText) → xs ++ [] ≡ xs
    nil [] = refl
    nil (x ∷ xs) = ap (λ (r : List FieldText). x ∷ r) (nil xs)

pub read_all : (count index : ℕ) (octets : List ℕ) (front : List FieldText) (half : Option ℕ) (rest : List ℕ) →
    count ≤ index → IsReadUpTo count index octets front half rest → fields_at count None octets ≡ Ok front
read_all count index octets front half rest h so_far =
    let none : count - index ≡ 0 = omega arith in
    so_far ∙ ap (λ (n : ℕ). with_front front (fields_at n half rest)) none ∙ nothing_more front half rest

-- want of memory is no fault of the grammar's
by_octets : (a b : Bool) (own : List ℕ × List ℕ) → if◌then◌else◌ {A = Result (List ℕ × List ℕ) IfpFault} a (Err BadCount) (if b then Err Short else Ok own) ≢ Err NoMemory
by_octets true b own = λ e. cc
by_octets false true own = λ e. cc
by_octets false false own = λ e. cc

octets_at-memory : (octets : List ℕ) → octets_at octets ≢ Err NoMemory
unfolding octets_at
octets_at-memory [] = λ e. cc
octets_at-memory (high ∷ []) = λ e. cc
octets_at-memory (high ∷ low ∷ octets) =
    let word : ℕ = 256 * high + low in
    by_octets (nat_eq word 65535) (nat_lt (length octets) (word + 1)) (take (word + 1) octets, drop (word + 1) octets)

by_field : (a : Bool) (field : ReadField) (own : Result (List ℕ × List ℕ) IfpFault) (f : List ℕ × List ℕ → ReadField) → own ≢ Err NoMemory →
    if◌then◌else◌ {A = Result ReadField IfpFault} a (Ok field) (own >>= λ o. Ok (f o)) ≢ Err NoMemory
by_field true field own f h = λ e. cc
by_field false field (Ok own) f h = λ e. cc
by_field false field (Err fault) f h = λ e. h (cc)

field_of-memory : (bits : ℕ) (half : Option ℕ) (octets : List ℕ) → field_of bits half octets ≢ Err NoMemory
field_of-memory bits half octets =
    by_field (nat_lt bits 8) (record { text = record { what = bits; octets = None }; half = half; octets = octets }) (octets_at octets)
    (λ own. record { text = record { what = bits - 8; octets = Some own.0 }; half = None; octets = own.1 }) (octets_at-memory octets)

field_at-memory : (half : Option ℕ) (octets : List ℕ) → field_at half octets ≢ Err NoMemory
unfolding field_at
field_at-memory (Some half) octets = field_of-memory half None octets
field_at-memory None [] = λ e. cc
field_at-memory None (octet ∷ octets) = field_of-memory (octet / 16) (Some (octet % 16)) octets

pub fields_at-memory : (n : ℕ) (half : Option ℕ) (octets : List ℕ) → fields_at n half octets ≢ Err NoMemory
unfolding fields_at
fields_at-memory zero half octets = λ e. cc
fields_at-memory (suc n) half octets =
    by (field_at half octets) (field_at-memory half octets) (λ field. fields_at n field.half field.octets) (λ field. fields_at-memory n field.half field.octets)
  where
    after : (field : FieldText) (others : Result (List FieldText) IfpFault) → others ≢ Err NoMemory → (others >>= λ fields. Ok (field ∷ fields)) ≢ Err NoMemory
    after field (Ok others) h = λ e. cc
    after field (Err fault) h = λ e. h (cc)

    by : (read : Result ReadField IfpFault) → read ≢ Err NoMemory → (others : ReadField → Result (List FieldText) IfpFault) → ((field : ReadField) → others field ≢ Err NoMemory)
        → (read >>= λ field. others field >>= λ fields. Ok (field.text ∷ fields)) ≢ Err NoMemory
    by (Ok field) h others k = after field.text (others field) (k field)
    by (Err fault) h others k = λ e. h (cc)

-- as many fields are read as were counted
pub fields_at-length : (n : ℕ) (half : Option ℕ) (octets : List ℕ) (fields : List FieldText) → fields_at n half octets ≡ Ok fields → length fields ≡ n
unfolding fields_at
fields_at-length zero half octets fields e = let same : fields ≡ [] = cc in rw same refl
fields_at-length (suc n) half octets fields e =
    by (field_at half octets) (λ field. fields_at n field.half field.octets) (λ field others e. fields_at-length n field.half field.octets others e) e
  where
    after : (field : FieldText) (others : Result (List FieldText) IfpFault) → ((xs : List FieldText) → others ≡ Ok xs → length xs ≡ n) →
        (others >>= λ xs. Ok (field ∷ xs)) ≡ Ok fields → length fields ≡ suc n
    after field (Ok others) h e = let same : fields ≡ field ∷ others = cc in rw (same, h others refl) refl
    after field (Err fault) h e = cc

    by : (read : Result ReadField IfpFault) (others : ReadField → Result (List FieldText) IfpFault) →
        ((field : ReadField) (xs : List FieldText) → others field ≡ Ok xs → length xs ≡ n) →
        (read >>= λ field. others field >>= λ xs. Ok (field.text ∷ xs)) ≡ Ok fields → length fields ≡ suc n
    by (Ok field) others h e = after field.text (others field) (h field) e
    by (Err fault) others h e = cc
