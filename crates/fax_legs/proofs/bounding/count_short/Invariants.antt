use Rattle.std.proofs.Common.{◌≡◌, ◌+◌, ◌*◌, ◌≤◌, length}
use Rattle.fax_udptl.proofs.WrittenLemmas.{packets_size}
use Rattle.fax_legs.specs.Bounding.{are_short}
use Rattle.fax_legs.proofs.bounding.count_short.Given as goal

abbrev pub invariant-loop-packet : goal.invariant-loop-packet
invariant-loop-packet l = record {
  short : are_short l.fn.packets ≡ are_short l.left;
  count : l.count + length l.left ≡ length l.fn.packets;
  octets : l.octets + packets_size l.left ≡ packets_size l.fn.packets;
  bound : l.octets ≤ 16385 * l.count;
  below : l.count ≤ 127;
}

abbrev pub decreases-loop-packet : goal.decreases-loop-packet
decreases-loop-packet l = length l.left
