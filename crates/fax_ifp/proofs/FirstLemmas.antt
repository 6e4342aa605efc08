-- What the first octet says of a packet.
use Rattle.std.proofs.Common.{◌≡◌, ℕ, ◌/◌, ◌%◌, ◌<◌, ◌≤◌, bit_and, ◌⊎◌, inl, inr, Bool, true, false, List, [], ◌∷◌, length, drop, get_or, Ok, Err, refl, sym, ◌∙◌, ap, arith}
use Rattle.std.proofs.lemmas.Nat.{and_mask}
use Rattle.fax_bits.specs.Bits.{bit}
use Rattle.fax_ifp.specs.declared.fault.IfpFault.{IfpFault}
use Rattle.fax_ifp.specs.declared.fault.IfpFault.TheVariants.{Short, Extension, BadValue}
use Rattle.fax_ifp.specs.Packets.{FieldText, Indicator, Message, fields_after, packet_from, packet_of}
use Rattle.fax_ifp.proofs.ReadingLemmas.{rest_from, rest_from-drop, below, not_below}

pub packet_of-none : (xs : List ℕ) → length xs < 1 → packet_of xs ≡ Err Short
unfolding packet_of
packet_of-none [] h = refl
packet_of-none (x ∷ xs) h = absurd (omega arith)

pub packet_of-extension : (xs : List ℕ) → 1 ≤ length xs → bit (get_or xs 0 0) 5 ≡ true → packet_of xs ≡ Err Extension
unfolding packet_of
packet_of-extension [] h e = absurd (omega arith)
packet_of-extension (x ∷ xs) h e = rw e refl

-- a first octet that is no extension, and of data only of a known type
pub record IsFirst (xs : List ℕ) : Type 0 where
  pub there : 1 ≤ length xs
  pub known : bit (get_or xs 0 0) 5 ≡ false
  pub value : bit (get_or xs 0 0) 6 ≡ true → get_or xs 0 0 / 2 % 16 ≤ 8

-- what the code tests of the first octet
pub is_first : (xs : List ℕ) (is_data : Bool) → 1 ≤ length xs → false ≡ bit (get_or xs 0 0) 5 → is_data ≡ bit (get_or xs 0 0) 6 →
    ((is_data ≡ true) × (bit_and (get_or xs 0 0 / 2) 15 ≤ 8)) ⊎ (is_data ≡ false) → IsFirst xs
is_first xs is_data t k d h = record { there = t; known = sym k; value = by h }
  where
    by : ((is_data ≡ true) × (bit_and (get_or xs 0 0 / 2) 15 ≤ 8)) ⊎ (is_data ≡ false) → bit (get_or xs 0 0) 6 ≡ true → get_or xs 0 0 / 2 % 16 ≤ 8
    by (inl g) e = let same : bit_and (get_or xs 0 0 / 2) 15 ≡ get_or xs 0 0 / 2 % 16 = and_mask (get_or xs 0 0 / 2) 4 in omega (arith, g.1)
    by (inr g) e = cc

dropped : (xs : List ℕ) → 1 ≤ length xs → bit (get_or xs 0 0) 5 ≡ false → packet_of xs ≡ packet_from (get_or xs 0 0) (drop 1 xs)
unfolding packet_of
dropped [] h e = absurd (omega arith)
dropped (x ∷ xs) h e = rw e refl

first : (xs : List ℕ) → 1 ≤ length xs → bit (get_or xs 0 0) 5 ≡ false → packet_of xs ≡ packet_from (get_or xs 0 0) (rest_from 1 xs)
first xs h e = dropped xs h e ∙ ap (packet_from (get_or xs 0 0)) (sym (rest_from-drop 1 xs))

pub data-value : (xs : List ℕ) → 1 ≤ length xs → bit (get_or xs 0 0) 5 ≡ false → bit (get_or xs 0 0) 6 ≡ true → 8 < get_or xs 0 0 / 2 % 16 →
    packet_of xs ≡ Err BadValue
data-value xs t k d h = first xs t k ∙ rw (d, below 8 (get_or xs 0 0 / 2 % 16) h) refl

pub indicator-read : (xs : List ℕ) (fields : List FieldText) → IsFirst xs → bit (get_or xs 0 0) 6 ≡ false →
    fields_after (get_or xs 0 0) (rest_from 1 xs) ≡ Ok fields → packet_of xs ≡ Ok (Indicator (get_or xs 0 0 / 2 % 16))
indicator-read xs fields f i e = first xs f.there f.known ∙ rw (i, e) refl

pub data-read : (xs : List ℕ) (fields : List FieldText) → IsFirst xs → bit (get_or xs 0 0) 6 ≡ true →
    fields_after (get_or xs 0 0) (rest_from 1 xs) ≡ Ok fields → packet_of xs ≡ Ok (Message (get_or xs 0 0 / 2 % 16) fields)
data-read xs fields f d e = first xs f.there f.known ∙ rw (d, not_below 8 (get_or xs 0 0 / 2 % 16) (f.value d), e) refl

-- a fault of the fields is the packet's
pub fields-fault : (xs : List ℕ) (fault : IfpFault) → IsFirst xs → fields_after (get_or xs 0 0) (rest_from 1 xs) ≡ Err fault → packet_of xs ≡ Err fault
fields-fault xs fault f e = by (bit (get_or xs 0 0) 6) refl
  where
    by : (is_data : Bool) → bit (get_or xs 0 0) 6 ≡ is_data → packet_of xs ≡ Err fault
    by true d = first xs f.there f.known ∙ rw (d, not_below 8 (get_or xs 0 0 / 2 % 16) (f.value d), e) refl
    by false d = first xs f.there f.known ∙ rw (d, e) refl
