use Rattle.std.proofs.Common.{◌≡◌, ◌+◌, ◌*◌, ◌≤◌, length, drop}
use Rattle.fax_ifp.specs.Seen.{texts_of}
use Rattle.fax_ifp.specs.WrittenPackets.{written_after, written_fields}
use Rattle.fax_ifp.proofs.writing.length_of_fields.Given as goal

abbrev pub invariant-loop-field : goal.invariant-loop-field
invariant-loop-field l = record {
  few : l.total ≤ 65538 * l.field-index;
  sum : l.total + length (written_after l.half (texts_of (drop l.field-index l.fields))) ≡ length (written_fields (texts_of l.fields));
}
