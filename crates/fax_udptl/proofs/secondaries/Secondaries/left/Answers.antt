use Rattle.std.proofs.Common.{length, sym, ◌∙◌, ap}
use Rattle.fax_udptl.proofs.PacketLemmas.{count_of_packets}
use Rattle.fax_udptl.proofs.secondaries.Secondaries.left.Goals as goal

pub returns : goal.returns
returns c = sym (count_of_packets c.self.inside.left c.self.inside.octets.now c.self.invariant) ∙ ap length c.self.view_is
