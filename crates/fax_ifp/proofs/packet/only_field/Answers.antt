use Rattle.std.proofs.Common.{◌≡◌, ℕ, ◌/◌, ◌%◌, bit_and, [], ◌∷◌, get_or, true, false, None, Ok, Err, sym, ◌∙◌, ap, arith}
use Rattle.std.proofs.lemmas.Nat.{and_mask}
use Rattle.fax_ifp.specs.Packets.{fields_at}
use Rattle.fax_ifp.specs.Seen.{text_of}
use Rattle.fax_ifp.proofs.FieldsLemmas.{fields_at-length}
use Rattle.fax_ifp.proofs.FirstLemmas.{IsFirst, data-read}
use Rattle.fax_ifp.proofs.PlainLemmas.{is_data, one_read, one_fault, read_octet}
use Rattle.fax_ifp.proofs.packet.only_field.Goals as goal
use Rattle.fax_ifp.proofs.packet.only_field.Goals.{then-value-kind-via-then-value-kind, then-value-kind-via-else-value-kind+then-value-gt-LAST_TYPE}

value : (octet : ℕ) → bit_and (octet / 2) 15 ≡ octet / 2 % 16
value octet = and_mask (octet / 2) 4

pub returns-in_default-clause-none : goal.returns-in_default-clause-none
returns-in_default-clause-none c text e =
    let d = is_data c.args.octets.now c.args.kind (text ∷ []) e in
    absurd (omega (arith, d.there))

pub returns-then-has_bit-clause-none : goal.returns-then-has_bit-clause-none
returns-then-has_bit-clause-none c text e =
    let d = is_data c.args.octets.now c.args.kind (text ∷ []) e in
    let wrong : true ≡ false = c.if-has_bit.ensures ∙ d.known in
    cc

pub returns-then-not-has_bit-clause-none : goal.returns-then-not-has_bit-clause-none
returns-then-not-has_bit-clause-none c text e =
    let d = is_data c.args.octets.now c.args.kind (text ∷ []) e in
    let wrong : false ≡ true = c.if-not-has_bit.ensures ∙ d.tells in
    cc

pub returns-then-value-kind-clause-none : goal.returns-then-value-kind-clause-none
returns-then-value-kind-clause-none c text e =
    let d = is_data c.args.octets.now c.args.kind (text ∷ []) e in
    let is : bit_and (get_or c.args.octets.now 0 0 / 2) 15 ≡ c.args.kind = value (get_or c.args.octets.now 0 0) ∙ d.value in
    elim c.then-value-kind.branch [ then-value-kind-via-then-value-kind w ↦ absurd (w.if-value-kind.true is) | then-value-kind-via-else-value-kind+then-value-gt-LAST_TYPE w ↦ absurd (omega (arith, d.few, is, w.if-value-gt-LAST_TYPE.true)) ]

pub returns-in_default-count_of_fields-clause-none : goal.returns-in_default-count_of_fields-clause-none
returns-in_default-count_of_fields-clause-none c text e =
    let d = is_data c.args.octets.now c.args.kind (text ∷ []) e in
    let both : Ok (text ∷ []) ≡ Err c.in_default-count_of_fields.field-0 = sym d.read ∙ c.in_default-count_of_fields.ensures.fault in
    cc

pub returns-then-count-ne1-clause-none : goal.returns-then-count-ne1-clause-none
returns-then-count-ne1-clause-none c text e =
    let d = is_data c.args.octets.now c.args.kind (text ∷ []) e in
    let n : 1 ≡ c.in-Ok.count = fields_at-length c.in-Ok.count None c.in-Ok.fields.now (text ∷ []) (sym c.in-Ok.ensures.count ∙ d.read) in
    absurd (omega (arith, c.if-count-ne1.true, n))

first_is : (c : goal.In-Ok-next_field) → IsFirst c.args.octets.now
first_is c = record {
  there = omega arith;
  known = sym c.if-has_bit.ensures;
  value = λ e. omega (arith, c.if-value-gt-LAST_TYPE.false, value (get_or c.args.octets.now 0 0));
}

pub returns-in-Ok-next_field-clause-field : goal.returns-in-Ok-next_field-clause-field
returns-in-Ok-next_field-clause-field c =
    let is : get_or c.args.octets.now 0 0 / 2 % 16 ≡ c.args.kind = sym (value (get_or c.args.octets.now 0 0)) ∙ c.if-value-kind.false in
    let one : fields_at c.in-Ok.count None c.in-Ok.fields.now ≡ Ok (text_of c.in-Ok-next_field.field ∷ []) =
    ap (λ (n : ℕ). fields_at n None c.in-Ok.fields.now) c.if-count-ne1.false
    ∙ one_read c.in-Ok.fields.now (record { text = text_of c.in-Ok-next_field.field; half = c.in-Ok-next_field.field-0-1.half; octets = c.in-Ok-next_field.field-0-1.octets.now }) c.in-Ok-next_field.ensures in
    rw (← is) (data-read c.args.octets.now (text_of c.in-Ok-next_field.field ∷ []) (first_is c) (sym c.if-not-has_bit.ensures) (c.in-Ok.ensures.count ∙ one))

pub returns-in-Ok-next_field-clause-some : goal.returns-in-Ok-next_field-clause-some
returns-in-Ok-next_field-clause-some c own e =
    read_octet c.in-Ok.fields.now (record { text = text_of c.in-Ok-next_field.field; half = c.in-Ok-next_field.field-0-1.half; octets = c.in-Ok-next_field.field-0-1.octets.now }) own c.in-Ok-next_field.ensures e

pub returns-in-Err-clause-none : goal.returns-in-Err-clause-none
returns-in-Err-clause-none c text e =
    let d = is_data c.args.octets.now c.args.kind (text ∷ []) e in
    let one : fields_at c.in-Ok.count None c.in-Ok.fields.now ≡ Err c.in-Err.field-0 = ap (λ (n : ℕ). fields_at n None c.in-Ok.fields.now) c.if-count-ne1.false ∙ one_fault c.in-Ok.fields.now c.in-Err.field-0 c.in-Err.ensures in
    let both : Ok (text ∷ []) ≡ Err c.in-Err.field-0 = sym d.read ∙ c.in-Ok.ensures.count ∙ one in
    cc
