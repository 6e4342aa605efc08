use Rattle.std.proofs.Common.{◌<◌, length, arith}
use Rattle.fax_udptl.proofs.BlockLemmas.{all_in_blocks, more_blocks, fewer_left, few_blocks}
use Rattle.fax_udptl.proofs.packets.find_blocks.Goals as goal

pub loop-rest-smaller : goal.loop-rest-smaller
loop-rest-smaller c =
    let some : 0 < length c.loop-rest.rest = omega arith in
    fewer_left c.loop-rest.rest c.take_first-in-loop-rest.new.self c.take_first-in-loop-rest.ensures.others some

pub loop-rest-preserved : goal.loop-rest-preserved
loop-rest-preserved c =
    let some : 0 < length c.loop-rest.rest = omega arith in
    record {
      all =
          all_in_blocks c.loop-rest.blocks.items c.push.new.self.items c.take_first-in-loop-rest.result c.loop-rest.rest c.take_first-in-loop-rest.new.self c.take_first.new.self
          c.push.ensures.items c.take_first-in-loop-rest.ensures.taken c.take_first-in-loop-rest.ensures.others c.loop-rest.invariant.all;
      blocks =
          more_blocks c.loop-rest.blocks.items c.push.new.self.items c.take_first-in-loop-rest.result c.loop-rest.rest
          c.push.ensures.items c.take_first-in-loop-rest.ensures.taken some c.loop-rest.invariant.blocks;
      few =
          few_blocks c.loop-rest.blocks.items c.push.new.self.items c.take_first-in-loop-rest.result c.loop-rest.rest c.take_first-in-loop-rest.new.self
          c.push.ensures.items c.take_first-in-loop-rest.ensures.others some c.loop-rest.invariant.few;
    }
