use Rattle.std.proofs.Common.{◌≡◌, true, ◌+◌, ◌++◌, length, take}
use Rattle.std.specs.Prelude.{flat_map}
use Rattle.fax_udptl.specs.Datagrams.{written_packet}
use Rattle.fax_udptl.proofs.WrittenLemmas.{packets_size}
use Rattle.fax_legs.specs.Bounding.{are_short}
use Rattle.fax_legs.proofs.bounding.put_packets.Given as goal

abbrev pub invariant-loop-more : goal.invariant-loop-more
invariant-loop-more l = record {
  front : take l.end l.room ++ flat_map written_packet (take l.more l.left) ≡ take l.fn.from l.fn.room ++ flat_map written_packet (take l.fn.count l.fn.packets);
  end : l.end + packets_size (take l.more l.left) ≡ l.fn.from + packets_size (take l.fn.count l.fn.packets);
  same_room : length l.room ≡ length l.fn.room;
  short : are_short l.left ≡ true;
}

abbrev pub decreases-loop-more : goal.decreases-loop-more
decreases-loop-more l = l.more
