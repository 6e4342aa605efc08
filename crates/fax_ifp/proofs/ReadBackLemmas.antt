-- What is written is read back.
use Rattle.std.proofs.Common.{◌≡◌, ℕ, suc, ◌+◌, ◌-◌, ◌*◌, ◌/◌, ◌%◌, ◌≤◌, List, [], ◌∷◌, ◌++◌, length, take, drop, Option, Some, None, Result, Ok, refl, ◌∙◌, ap, ap₂, arith, length-append}
use Rattle.std.proofs.Math.Seq.{take-append_seam, drop-append_seam}
use Rattle.std.proofs.lemmas.List.Elements.{recursion_from_All}
use Rattle.std.specs.List.{AllByRecursion}
use Rattle.fax_bits.specs.Bits.{bit}
use Rattle.fax_ifp.specs.declared.fault.IfpFault.{IfpFault}
use Rattle.fax_ifp.specs.Packets.{FieldText, ReadField, Indicator, Message, ◌>>=◌, octets_at, field_of, field_at, fields_at, fields_after, packet_of}
use Rattle.fax_ifp.specs.WrittenPackets.{counted, written_after, written_message, IsWritableField}
use Rattle.fax_ifp.specs.PacketLaws.{IndicatorsAreReadBack, MessagesAreReadBack}
use Rattle.fax_ifp.proofs.ReadingLemmas.{octets_by_all, below, not_below}
use Rattle.fax_ifp.proofs.FieldsLemmas.{one_more}

-- octets after their length word
own_back : (own rest : List ℕ) → 1 ≤ length own → length own ≤ 65535 → octets_at (counted (Some own) ++ rest) ≡ Ok (own, rest)
unfolding octets_at
own_back own rest some few =
    let word : ℕ = 256 * ((length own - 1) / 256) + (length own - 1) % 256 in
    let count : word + 1 ≡ length own = omega arith in
    let pair : List ℕ → List ℕ → Result (List ℕ × List ℕ) IfpFault = λ x y. Ok (x, y) in
    octets_by_all word (own ++ rest) (omega arith) (omega (arith, length-append own rest))
    ∙ ap₂ pair
    (ap (λ (n : ℕ). take n (own ++ rest)) count ∙ take-append_seam own rest)
    (ap (λ (n : ℕ). drop n (own ++ rest)) count ∙ drop-append_seam own rest)

-- a field of four bits
type_back : (bits : ℕ) (half : Option ℕ) (rest : List ℕ) → bits ≤ 7 →
    field_of bits half rest ≡ Ok (record { text = record { what = bits; octets = None }; half = half; octets = rest })
type_back bits half rest h = rw (below bits 8 (omega arith)) refl

octets_back : (what : ℕ) (half : Option ℕ) (own rest : List ℕ) → 1 ≤ length own → length own ≤ 65535 →
    field_of (8 + what) half (counted (Some own) ++ rest) ≡ Ok (record { text = record { what = what; octets = Some own }; half = None; octets = rest })
octets_back what half own rest some few =
    let same : (8 + what) - 8 ≡ what = omega arith in
    let say : ℕ → Result ReadField IfpFault = λ n. Ok (record { text = record { what = n; octets = Some own }; half = None; octets = rest }) in
    rw (not_below (8 + what) 8 (omega arith), own_back own rest some few) (ap say same)

-- one field more
more_back : (n : ℕ) (half : Option ℕ) (octets : List ℕ) (field : ReadField) (fields : List FieldText) →
    field_at half octets ≡ Ok field → fields_at n field.half field.octets ≡ Ok fields → fields_at (suc n) half octets ≡ Ok (field.text ∷ fields)
more_back n half octets field fields e h =
    one_more n half octets
    ∙ ap (λ (r : Result ReadField IfpFault). r >>= λ f. fields_at n f.half f.octets >>= λ others. Ok (f.text ∷ others)) e
    ∙ ap (λ (r : Result (List FieldText) IfpFault). r >>= λ others. Ok (field.text ∷ others)) h

-- the next octet: its first half, and its second
high_back : (bits low : ℕ) (rest : List ℕ) → bits ≤ 15 → low ≤ 15 → field_at None ((16 * bits + low) ∷ rest) ≡ field_of bits (Some low) rest
unfolding field_at
high_back bits low rest h k =
    let high : (16 * bits + low) / 16 ≡ bits = omega arith in
    let rest_bits : (16 * bits + low) % 16 ≡ low = omega arith in
    ap₂ (λ (x y : ℕ). field_of x (Some y) rest) high rest_bits

alone_back : (bits : ℕ) (rest : List ℕ) → bits ≤ 15 → field_at None (16 * bits ∷ rest) ≡ field_of bits (Some 0) rest
unfolding field_at
alone_back bits rest h =
    let high : 16 * bits / 16 ≡ bits = omega arith in
    let rest_bits : 16 * bits % 16 ≡ 0 = omega arith in
    ap₂ (λ (x y : ℕ). field_of x (Some y) rest) high rest_bits

low_back : (low : ℕ) (rest : List ℕ) → field_at (Some low) rest ≡ field_of low None rest
unfolding field_at
low_back low rest = refl

-- fields are read back, and so is a field without octets in front of them whose octet is shared
record ReadBack (fields : List FieldText) : Type 0 where
  alone : fields_at (length fields) None (written_after None fields) ≡ Ok fields
  after : (bits : ℕ) → bits ≤ 7 →
      fields_at (suc (length fields)) None (written_after (Some bits) fields) ≡ Ok (record { what = bits; octets = None } ∷ fields)

none_back : ReadBack []
unfolding fields_at written_after
none_back = record {
  alone = refl;
  after = λ bits h.
      more_back 0 None (16 * bits ∷ []) (record { text = record { what = bits; octets = None }; half = Some 0; octets = [] }) []
      (alone_back bits [] (omega arith) ∙ type_back bits (Some 0) [] h) refl;
}

one_back : (what : ℕ) (octets : Option (List ℕ)) (fields : List FieldText) → IsWritableField (record { what = what; octets = octets }) →
    ReadBack fields → ReadBack (record { what = what; octets = octets } ∷ fields)
unfolding written_after
one_back what None fields w others = record {
  alone = others.after what w.what;
  after = λ bits h.
      let rest : List ℕ = written_after None fields in
      more_back (suc (length fields)) None ((16 * bits + what) ∷ rest) (record { text = record { what = bits; octets = None }; half = Some what; octets = rest })
      (record { what = what; octets = None } ∷ fields)
      (high_back bits what rest (omega arith) (omega (arith, w.what)) ∙ type_back bits (Some what) rest h)
      (more_back (length fields) (Some what) rest (record { text = record { what = what; octets = None }; half = None; octets = rest }) fields
      (low_back what rest ∙ type_back what None rest w.what) others.alone);
}
one_back what (Some own) fields w others = record {
  alone =
      let rest : List ℕ = written_after None fields in
      more_back (length fields) None (16 * (8 + what) ∷ counted (Some own) ++ rest) (record { text = record { what = what; octets = Some own }; half = None; octets = rest }) fields
      (alone_back (8 + what) (counted (Some own) ++ rest) (omega (arith, w.what)) ∙ octets_back what (Some 0) own rest w.octets.0 w.octets.1)
      others.alone;
  after = λ bits h.
      let rest : List ℕ = written_after None fields in
      more_back (suc (length fields)) None ((16 * bits + (8 + what)) ∷ counted (Some own) ++ rest)
      (record { text = record { what = bits; octets = None }; half = Some (8 + what); octets = counted (Some own) ++ rest }) (record { what = what; octets = Some own } ∷ fields)
      (high_back bits (8 + what) (counted (Some own) ++ rest) (omega arith) (omega (arith, w.what)) ∙ type_back bits (Some (8 + what)) (counted (Some own) ++ rest) h)
      (more_back (length fields) (Some (8 + what)) (counted (Some own) ++ rest) (record { text = record { what = what; octets = Some own }; half = None; octets = rest }) fields
      (low_back (8 + what) (counted (Some own) ++ rest) ∙ octets_back what None own rest w.octets.0 w.octets.1) others.alone);
}

all_back : (fields : List FieldText) → AllByRecursion IsWritableField fields → ReadBack fields
all_back [] all = none_back
all_back (field ∷ fields) all = one_back field.what field.octets fields all.0 (all_back fields all.1)

pub indicators : IndicatorsAreReadBack
unfolding packet_of fields_after bit
indicators code h =
    let seventh : 2 * code / 128 % 2 ≡ 0 = omega arith in
    let sixth : 2 * code / 64 % 2 ≡ 0 = omega arith in
    let fifth : 2 * code / 32 % 2 ≡ 0 = omega arith in
    let value : 2 * code / 2 % 16 ≡ code = omega arith in
    rw (fifth, sixth, seventh) (ap (λ (n : ℕ). Ok (Indicator n)) value)

messages : (kind : ℕ) (fields : List FieldText) → kind ≤ 8 → length fields ≤ 127 → ReadBack fields → packet_of (written_message kind fields) ≡ Ok (Message kind fields)
unfolding packet_of fields_after bit
messages kind [] k few back =
    let seventh : (64 + 2 * kind) / 128 % 2 ≡ 0 = omega arith in
    let sixth : (64 + 2 * kind) / 64 % 2 ≡ 1 = omega arith in
    let fifth : (64 + 2 * kind) / 32 % 2 ≡ 0 = omega arith in
    let value : (64 + 2 * kind) / 2 % 16 ≡ kind = omega arith in
    rw (fifth, sixth, seventh, value, not_below 8 kind k) refl
messages kind (field ∷ fields) k few back =
    let seventh : (192 + 2 * kind) / 128 % 2 ≡ 1 = omega arith in
    let sixth : (192 + 2 * kind) / 64 % 2 ≡ 1 = omega arith in
    let fifth : (192 + 2 * kind) / 32 % 2 ≡ 0 = omega arith in
    let value : (192 + 2 * kind) / 2 % 16 ≡ kind = omega arith in
    rw (fifth, sixth, seventh, value, not_below 8 kind k, not_below 127 (length (field ∷ fields)) few, back.alone) refl

pub messages_back : MessagesAreReadBack
messages_back kind fields w = messages kind fields w.known w.few (all_back fields (recursion_from_All IsWritableField fields w.each))
