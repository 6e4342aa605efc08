use Rattle.std.proofs.Common.{◌+◌, ◌*◌, List, ℕ, [], ◌∷◌, ◌++◌, sym, ◌∙◌, ap, arith, append-nil, drop}
use Rattle.fax_ifp.specs.Seen.{text_of, texts_of}
use Rattle.fax_ifp.specs.Inside.Halves.{half_after, added}
use Rattle.fax_ifp.specs.WrittenPackets.{written_after, written_fields}
use Rattle.fax_ifp.proofs.WritingLemmas.{field_of_index, each_at, written_step, written_end, half-few, text_more, text_room, last_octet}
use Rattle.fax_ifp.proofs.writing.push_fields.Goals as goal

pub push_field-requires-clause-field : goal.push_field-requires-clause-field
push_field-requires-clause-field c = each_at c.args.fields.now c.loop-field.field-index c.requires.each (omega arith)

pub push_field-requires-clause-room : goal.push_field-requires-clause-room
push_field-requires-clause-room c =
    let text = text_of (field_of_index c.args.fields.now c.loop-field.field-index) in
    let step = written_step c.loop-field.half c.args.fields.now c.loop-field.field-index (omega arith) in
    let rest : List ℕ = written_after (half_after c.loop-field.half text) (texts_of (drop (c.loop-field.field-index + 1) c.args.fields.now)) in
    let room = text_room c.loop-field.octets.items (written_after c.loop-field.half (texts_of (drop c.loop-field.field-index c.args.fields.now)))
    (added c.loop-field.half text) rest c.args.octets.now.items (written_fields (texts_of c.args.fields.now)) c.loop-field.invariant.text step in
    omega (arith, room, c.loop-field.octets.ok.0, c.args.octets.now.ok.0, c.requires.room, c.loop-field.invariant.room)

pub loop-field-preserved : goal.loop-field-preserved
loop-field-preserved c =
    let text = text_of (field_of_index c.args.fields.now c.loop-field.field-index) in
    let step = written_step c.loop-field.half c.args.fields.now c.loop-field.field-index (omega arith) in
    let rest : List ℕ = written_after (half_after c.loop-field.half text) (texts_of (drop (c.loop-field.field-index + 1) c.args.fields.now)) in
    record {
      few = rw c.half_after-half.ensures (half-few c.loop-field.half text (each_at c.args.fields.now c.loop-field.field-index c.requires.each (omega arith)));
      room = omega (arith, c.loop-field.invariant.room, c.push_field.ensures.capacity);
      text = rw (c.half_after-half.ensures, c.push_field.ensures.items)
          (text_more c.loop-field.octets.items (written_after c.loop-field.half (texts_of (drop c.loop-field.field-index c.args.fields.now)))
          (added c.loop-field.half text) rest (c.args.octets.now.items ++ written_fields (texts_of c.args.fields.now)) c.loop-field.invariant.text step);
    }

pub push_reserved-requires : goal.push_reserved-requires
push_reserved-requires c =
    let end = written_end c.loop-field.half c.args.fields.now c.loop-field.field-index (omega arith) ∙ ap last_octet c.in-Some.is in
    let room = text_room c.loop-field.octets.items (written_after c.loop-field.half (texts_of (drop c.loop-field.field-index c.args.fields.now)))
    (16 * c.in-Some.half ∷ []) [] c.args.octets.now.items (written_fields (texts_of c.args.fields.now)) c.loop-field.invariant.text end in
    omega (arith, room, c.loop-field.octets.ok.0, c.args.octets.now.ok.0, c.requires.room, c.loop-field.invariant.room)

pub returns-in-Some-clause-items : goal.returns-in-Some-clause-items
returns-in-Some-clause-items c =
    let end = written_end c.loop-field.half c.args.fields.now c.loop-field.field-index (omega arith) ∙ ap last_octet c.in-Some.is in
    rw c.push_reserved.ensures.items (ap (λ (x : List ℕ). c.loop-field.octets.items ++ x) (sym end) ∙ c.loop-field.invariant.text)

pub returns-in_default-clause-items : goal.returns-in_default-clause-items
returns-in_default-clause-items c =
    let end = written_end c.loop-field.half c.args.fields.now c.loop-field.field-index (omega arith) ∙ ap last_octet c.in_default.is in
    sym (append-nil c.loop-field.octets.items) ∙ ap (λ (x : List ℕ). c.loop-field.octets.items ++ x) (sym end) ∙ c.loop-field.invariant.text
