use Rattle.std.proofs.Common.{◌≡◌, ◌≤◌, ◌++◌, drop, vec_capacity}
use Rattle.std.specs.Option.{ForSome}
use Rattle.fax_ifp.specs.Seen.{texts_of}
use Rattle.fax_ifp.specs.WrittenPackets.{written_after, written_fields}
use Rattle.fax_ifp.proofs.writing.push_fields.Given as goal

abbrev pub invariant-loop-field : goal.invariant-loop-field
invariant-loop-field l = record {
  few : ForSome l.half (λ half. half ≤ 7);
  room : vec_capacity l.octets ≡ vec_capacity l.initial.octets;
  text : l.octets.items ++ written_after l.half (texts_of (drop l.field-index l.fields)) ≡ l.initial.octets.items ++ written_fields (texts_of l.fields);
}
