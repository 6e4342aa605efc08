use Rattle.std.proofs.Common.{◌≡◌, ◌++◌, ◌≤◌, ◌+◌, ◌*◌, length}
use Rattle.fax_udptl.specs.Reading.{AreBlocks, packets_of}
use Rattle.fax_udptl.proofs.packets.find_blocks.Given as goal

abbrev pub invariant-loop-rest : goal.invariant-loop-rest
invariant-loop-rest l = record {
  all : packets_of l.blocks.items ++ l.rest ≡ l.initial.rest;
  blocks : AreBlocks l.blocks.items;
  few : length l.rest + 64 * length l.blocks.items ≤ 4096;
}

abbrev pub decreases-loop-rest : goal.decreases-loop-rest
decreases-loop-rest l = length l.rest
