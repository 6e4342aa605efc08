use Rattle.std.proofs.Common.{List}
use Rattle.fax_ifp.specs.Packets.{FieldText}
use Rattle.fax_ifp.proofs.FieldsLemmas.{IsReadUpTo}
use Rattle.fax_ifp.proofs.packet.check_fields.Given as goal

abbrev pub invariant-loop : goal.invariant-loop
invariant-loop l = (front : List FieldText) × IsReadUpTo l.count l.counter l.octets front l.place.half l.place.octets.now
