use Rattle.std.proofs.Common.{◌≡◌, ◌+◌, ◌*◌, ◌≤◌, length}
use Rattle.fax_udptl.specs.Sending.{AreShort}
use Rattle.fax_udptl.proofs.WrittenLemmas.{packets_size}
use Rattle.fax_udptl.proofs.sender.packets_size.Given as goal

abbrev pub invariant-loop-packet : goal.invariant-loop-packet
invariant-loop-packet l = record {
  size : l.size + packets_size l.packet-iterator ≡ packets_size l.fn.packets.items;
  bound : l.size + 16385 * length l.packet-iterator ≤ 16385 * length l.fn.packets.items;
  short : AreShort l.packet-iterator;
}
