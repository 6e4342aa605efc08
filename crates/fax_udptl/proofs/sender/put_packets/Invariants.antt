use Rattle.std.proofs.Common.{◌≡◌, ◌++◌, ◌+◌, ◌≤◌}
use Rattle.std.specs.Prelude.{flat_map, vec_len, vec_capacity}
use Rattle.fax_udptl.specs.Datagrams.{written_packet}
use Rattle.fax_udptl.specs.Sending.{AreShort}
use Rattle.fax_udptl.proofs.WrittenLemmas.{packets_size}
use Rattle.fax_udptl.proofs.sender.put_packets.Given as goal

abbrev pub invariant-loop-packet : goal.invariant-loop-packet
invariant-loop-packet l = record {
  written : l.octets.items ++ flat_map written_packet l.packet-iterator ≡ l.fn.octets.items ++ flat_map written_packet l.fn.packets.items;
  room : vec_len l.octets + packets_size l.packet-iterator ≤ vec_capacity l.octets;
  short : AreShort l.packet-iterator;
}
