use Rattle.std.proofs.Common.{refl, arith, take_all, None}
use Rattle.std.specs.List.{All}
use Rattle.std.proofs.lemmas.List.Elements.{All-map, All-more}
use Rattle.fax_ifp.specs.declared.packet.Field.{Field}
use Rattle.fax_ifp.specs.Seen.{text_of}
use Rattle.fax_ifp.specs.WrittenPackets.{IsWritableField}
use Rattle.fax_ifp.proofs.WritingLemmas.{length-texts}
use Rattle.codec_tests.proofs.ifp.is_writable.Goals as goal

pub loop-field-preserved : goal.loop-field-preserved
loop-field-preserved c =
    All-more (λ (field : Field). IsWritableField (text_of field)) c.args.fields.now c.loop-field.field-index (record { what = 0; octets = None }) (omega arith) c.loop-field.invariant
    (c.if-not-is_writable_field.ensures refl)

pub returns : goal.returns
returns c = λ t.
    let each : All (λ (field : Field). IsWritableField (text_of field)) c.args.fields.now = rw (take_all c.loop-field.field-index c.args.fields.now (omega arith)) at c.loop-field.invariant in
    record { known = omega arith; few = omega (arith, length-texts c.args.fields.now); each = All-map IsWritableField text_of c.args.fields.now each }
