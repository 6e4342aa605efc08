use Rattle.std.proofs.Common.{◌∷◌, [], None, ◌∙◌, arith, length-append}
use Rattle.std.proofs.lemmas.Result.{err_from_is_err_and}
use Rattle.fax_ifp.specs.Seen.{text_of, texts_of}
use Rattle.fax_ifp.proofs.FieldsLemmas.{read_one, read_fault, read_all, fields_at-memory}
use Rattle.fax_ifp.proofs.SeenLemmas.{texts_of-push}
use Rattle.fax_ifp.proofs.packet.read_fields.Goals as goal

pub returns-in_err-check_fields-clause-memory : goal.returns-in_err-check_fields-clause-memory
returns-in_err-check_fields-clause-memory c =
    let p = err_from_is_err_and c.from_residual.result c.from_residual.ensures.1 in
    λ e. absurd (fields_at-memory c.args.count None c.args.octets.now (c.in_err-check_fields.ensures.fault ∙ (cc (p.1, p.2))))

pub returns-in_err-field-clause-refused : goal.returns-in_err-field-clause-refused
returns-in_err-field-clause-refused c =
    let p = err_from_is_err_and c.from_residual-in_err-field.result c.from_residual-in_err-field.ensures.1 in
    rw (p.1, p.2) (λ _.
    read_fault c.args.count c.loop.counter c.args.octets.now (texts_of c.loop.fields.items) c.loop.place.half c.loop.place.octets.now c.in_err-field.field-0.0 (omega arith)
    c.in_err-field.ensures c.loop.invariant.read)

pub returns-in_err-field-clause-memory : goal.returns-in_err-field-clause-memory
returns-in_err-field-clause-memory c =
    let p = err_from_is_err_and c.from_residual-in_err-field.result c.from_residual-in_err-field.ensures.1 in
    λ e.
    absurd (fields_at-memory c.args.count None c.args.octets.now
    (read_fault c.args.count c.loop.counter c.args.octets.now (texts_of c.loop.fields.items) c.loop.place.half c.loop.place.octets.now c.in_err-field.field-0.0 (omega arith)
    c.in_err-field.ensures c.loop.invariant.read ∙ (cc (p.1, p.2))))

pub loop-preserved : goal.loop-preserved
loop-preserved c = record {
  kept = rw c.push_reserved.ensures.items (omega (arith, c.loop.invariant.kept, length-append c.loop.fields.items (c.in_ok-field.field ∷ [])));
  room = rw c.push_reserved.ensures.capacity c.loop.invariant.room;
  read =
      rw (c.push_reserved.ensures.items, texts_of-push c.loop.fields.items c.in_ok-field.field)
      (read_one c.args.count c.loop.counter c.args.octets.now (texts_of c.loop.fields.items) c.loop.place.half c.loop.place.octets.now
      (record { text = text_of c.in_ok-field.field; half = c.in_ok-field.after.half; octets = c.in_ok-field.after.octets.now }) (omega arith) c.in_ok-field.ensures c.loop.invariant.read);
}

pub returns-clause-read : goal.returns-clause-read
returns-clause-read c =
    read_all c.args.count c.loop.counter c.args.octets.now (texts_of c.loop.fields.items) c.loop.place.half c.loop.place.octets.now (omega arith) c.loop.invariant.read
