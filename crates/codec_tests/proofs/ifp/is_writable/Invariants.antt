use Rattle.std.proofs.Common.{take}
use Rattle.std.specs.List.{All}
use Rattle.fax_ifp.specs.Seen.{text_of}
use Rattle.fax_ifp.specs.WrittenPackets.{IsWritableField}
use Rattle.codec_tests.proofs.ifp.is_writable.Given as goal

abbrev pub invariant-loop-field : goal.invariant-loop-field
invariant-loop-field l = All (λ field. IsWritableField (text_of field)) (take l.field-index l.fields)
