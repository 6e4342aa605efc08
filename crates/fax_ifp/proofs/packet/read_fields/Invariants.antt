use Rattle.std.proofs.Common.{◌≡◌, ◌≤◌, length}
use Rattle.fax_ifp.specs.Seen.{texts_of}
use Rattle.fax_ifp.proofs.FieldsLemmas.{IsReadUpTo}
use Rattle.fax_ifp.proofs.packet.read_fields.Given as goal

abbrev pub invariant-loop : goal.invariant-loop
invariant-loop l = record {
  kept : length l.fields.items ≡ l.counter;
  room : l.count ≤ l.fields.capacity;
  read : IsReadUpTo l.count l.counter l.octets (texts_of l.fields.items) l.place.half l.place.octets.now;
}
