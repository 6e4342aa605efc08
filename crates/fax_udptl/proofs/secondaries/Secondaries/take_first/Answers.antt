use Rattle.fax_udptl.proofs.BlockLemmas.{further}
use Rattle.fax_udptl.proofs.secondaries.Secondaries.take_first.Goals as goal

pub loop-preserved : goal.loop-preserved
loop-preserved c = further c.next.result c.loop.counter c.loop.self c.next.new.self c.args.self.now c.loop.invariant c.next.ensures.steps
