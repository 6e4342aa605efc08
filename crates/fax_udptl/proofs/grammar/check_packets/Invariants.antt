use Rattle.std.proofs.Common.{◌≡◌, ◌-◌}
use Rattle.fax_udptl.specs.Datagrams.{packets_at}
use Rattle.fax_udptl.specs.Reading.{fault_in}
use Rattle.fax_udptl.proofs.grammar.check_packets.Given as goal

abbrev pub invariant-loop : goal.invariant-loop
invariant-loop l = fault_in (packets_at (l.count - l.counter) l.rest) ≡ fault_in (packets_at l.count l.octets)
