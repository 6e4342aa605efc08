use Rattle.fax_udptl.proofs.PacketLemmas.{none_left, none_stand}
use Rattle.fax_udptl.proofs.secondaries.SecondariesDefault.default.Goals as goal

pub invariant_of-result : goal.invariant_of-result
invariant_of-result c = none_stand c.default.result.now

pub returns : goal.returns
returns c = none_left c.default.result.now
