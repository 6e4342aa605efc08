use Rattle.std.proofs.Common.{◌+◌, List, ℕ, length, ◌∙◌, ap, arith, length-append, drop}
use Rattle.fax_ifp.specs.Seen.{text_of, texts_of}
use Rattle.fax_ifp.specs.Inside.Halves.{half_after, added}
use Rattle.fax_ifp.specs.WrittenPackets.{written_after}
use Rattle.fax_ifp.proofs.WritingLemmas.{field_of_index, each_at, written_step, written_end, added-few, last_octet}
use Rattle.fax_ifp.proofs.writing.length_of_fields.Goals as goal

pub length_after-total-requires : goal.length_after-total-requires
length_after-total-requires c = each_at c.args.fields.now c.loop-field.field-index c.requires.each (omega arith)

pub overflow_add-total : goal.overflow_add-total
overflow_add-total c =
    let few = added-few c.loop-field.half (text_of (field_of_index c.args.fields.now c.loop-field.field-index)) (each_at c.args.fields.now c.loop-field.field-index c.requires.each (omega arith)) in
    omega (arith, few, c.length_after-total.ensures, c.loop-field.invariant.few, c.requires.few)

pub loop-field-preserved : goal.loop-field-preserved
loop-field-preserved c =
    let text = text_of (field_of_index c.args.fields.now c.loop-field.field-index) in
    let few = added-few c.loop-field.half text (each_at c.args.fields.now c.loop-field.field-index c.requires.each (omega arith)) in
    let step = written_step c.loop-field.half c.args.fields.now c.loop-field.field-index (omega arith) in
    let rest : List ℕ = written_after (half_after c.loop-field.half text) (texts_of (drop (c.loop-field.field-index + 1) c.args.fields.now)) in
    record {
      few = omega (arith, few, c.length_after-total.ensures, c.loop-field.invariant.few);
      sum = rw c.half_after-half.ensures (omega (arith, c.loop-field.invariant.sum, ap length step, length-append (added c.loop-field.half text) rest, c.length_after-total.ensures));
    }

pub returns-in-Some-clause-sum : goal.returns-in-Some-clause-sum
returns-in-Some-clause-sum c =
    let end = written_end c.loop-field.half c.args.fields.now c.loop-field.field-index (omega arith) ∙ ap last_octet c.in-Some.is in
    omega (arith, c.loop-field.invariant.sum, ap length end)

pub returns-in-None-clause-sum : goal.returns-in-None-clause-sum
returns-in-None-clause-sum c =
    let end = written_end c.loop-field.half c.args.fields.now c.loop-field.field-index (omega arith) ∙ ap last_octet c.in-None.is in
    omega (arith, c.loop-field.invariant.sum, ap length end)
