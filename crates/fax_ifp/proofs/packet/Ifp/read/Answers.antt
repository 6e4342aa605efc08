use Rattle.std.proofs.Common.{◌≡◌, ℕ, ◌/◌, ◌%◌, bit_and, None, length, get_or, sym, ◌∙◌, arith}
use Rattle.std.proofs.lemmas.Nat.{and_mask}
use Rattle.std.proofs.lemmas.Result.{err_from_is_err_and}
use Rattle.fax_ifp.specs.Seen.{texts_of}
use Rattle.fax_ifp.proofs.FieldsLemmas.{fields_at-memory, fields_at-length}
use Rattle.fax_ifp.proofs.FirstLemmas.{IsFirst, is_first, packet_of-none, packet_of-extension, data-value, indicator-read, data-read, fields-fault}
use Rattle.fax_ifp.proofs.packet.Ifp.read.Goals as goal

value : (octet : ℕ) → bit_and (octet / 2) 15 ≡ octet / 2 % 16
value octet = and_mask (octet / 2) 4

pub returns-in_default-clause-refused : goal.returns-in_default-clause-refused
returns-in_default-clause-refused c = λ _. packet_of-none c.args.octets.now (omega arith)

pub returns-then-has_bit-clause-refused : goal.returns-then-has_bit-clause-refused
returns-then-has_bit-clause-refused c = λ _. packet_of-extension c.args.octets.now (omega arith) (sym c.if-has_bit.ensures)

pub returns-then-value-gt-LAST_TYPE-clause-refused : goal.returns-then-value-gt-LAST_TYPE-clause-refused
returns-then-value-gt-LAST_TYPE-clause-refused c = λ _.
    data-value c.args.octets.now (omega arith) (sym c.if-has_bit.ensures) (sym c.if-is_data.ensures)
    (omega (arith, c.if-value-gt-LAST_TYPE.true, value (get_or c.args.octets.now 0 0)))

pub returns-in_err-count-clause-refused : goal.returns-in_err-count-clause-refused
returns-in_err-count-clause-refused c =
    let p = err_from_is_err_and c.from_residual.result c.from_residual.ensures.1 in
    let f : IsFirst c.args.octets.now = is_first c.args.octets.now c.has_bit-is_data.result (omega arith) c.if-has_bit.ensures c.has_bit-is_data.ensures c.else-is_data.either in
    rw (p.1, p.2) (λ _. fields-fault c.args.octets.now c.in_err-count.field-0.0 f c.in_err-count.ensures.fault)

pub returns-in_err-check_fields-clause-refused : goal.returns-in_err-check_fields-clause-refused
returns-in_err-check_fields-clause-refused c =
    let p = err_from_is_err_and c.from_residual-in_err-check_fields.result c.from_residual-in_err-check_fields.ensures.1 in
    let f : IsFirst c.args.octets.now = is_first c.args.octets.now c.has_bit-is_data.result (omega arith) c.if-has_bit.ensures c.has_bit-is_data.ensures c.else-is_data.either in
    rw (p.1, p.2) (λ _. fields-fault c.args.octets.now c.in_err-check_fields.field-0.0 f (c.in_ok-count.ensures.count ∙ c.in_err-check_fields.ensures.fault))

pub returns-in_err-check_fields-clause-memory : goal.returns-in_err-check_fields-clause-memory
returns-in_err-check_fields-clause-memory c =
    let p = err_from_is_err_and c.from_residual-in_err-check_fields.result c.from_residual-in_err-check_fields.ensures.1 in
    λ e. absurd (fields_at-memory c.in_ok-count.count None c.in_ok-count.fields.now (c.in_err-check_fields.ensures.fault ∙ (cc (p.1, p.2))))

pub returns-then-not-is_data-clause-read : goal.returns-then-not-is_data-clause-read
returns-then-not-is_data-clause-read c =
    let f : IsFirst c.args.octets.now = is_first c.args.octets.now c.has_bit-is_data.result (omega arith) c.if-has_bit.ensures c.has_bit-is_data.ensures c.else-is_data.either in
    let fields = c.in_ok-check_fields.ensures.good in
    rw value (indicator-read c.args.octets.now fields.0 f (sym c.if-not-is_data.ensures) (c.in_ok-count.ensures.count ∙ fields.1))

pub returns-in_err-fields-clause-refused : goal.returns-in_err-fields-clause-refused
returns-in_err-fields-clause-refused c =
    let p = err_from_is_err_and c.from_residual-in_err-fields.result c.from_residual-in_err-fields.ensures.1 in
    let f : IsFirst c.args.octets.now = is_first c.args.octets.now c.has_bit-is_data.result (omega arith) c.if-has_bit.ensures c.has_bit-is_data.ensures c.else-is_data.either in
    rw (p.1, p.2) (λ h. fields-fault c.args.octets.now c.in_err-fields.field-0.0 f (c.in_ok-count.ensures.count ∙ c.in_err-fields.ensures.refused h))

pub returns-in_err-fields-clause-memory : goal.returns-in_err-fields-clause-memory
returns-in_err-fields-clause-memory c =
    let p = err_from_is_err_and c.from_residual-in_err-fields.result c.from_residual-in_err-fields.ensures.1 in
    let f : IsFirst c.args.octets.now = is_first c.args.octets.now c.has_bit-is_data.result (omega arith) c.if-has_bit.ensures c.has_bit-is_data.ensures c.else-is_data.either in
    λ e.
    let m = c.in_err-fields.ensures.memory (cc (p.1, p.2)) in
    let many : length m.1 ≡ c.in_ok-count.count = fields_at-length c.in_ok-count.count None c.in_ok-count.fields.now m.1 m.2 in (
      get_or c.args.octets.now 0 0 / 2 % 16,
      m.1,
      data-read c.args.octets.now m.1 f (sym c.if-not-is_data.ensures) (c.in_ok-count.ensures.count ∙ m.2),
      omega (arith, m.0),
    )

pub returns-clause-read : goal.returns-clause-read
returns-clause-read c =
    let f : IsFirst c.args.octets.now = is_first c.args.octets.now c.has_bit-is_data.result (omega arith) c.if-has_bit.ensures c.has_bit-is_data.ensures c.else-is_data.either in
    rw value (data-read c.args.octets.now (texts_of c.in_ok-fields.fields.items) f (sym c.if-not-is_data.ensures) (c.in_ok-count.ensures.count ∙ c.in_ok-fields.ensures.read))
