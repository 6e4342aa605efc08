use Rattle.std.proofs.Common.{ℕ, List, take, arith, ◌∙◌, ap}
use Rattle.fax_udptl.proofs.PacketLemmas.{fewer_stand, first_packets}
use Rattle.fax_udptl.proofs.secondaries.Secondaries.first.Goals as goal

pub invariant_of-result : goal.invariant_of-result
invariant_of-result c = fewer_stand c.self.inside.left c.min.result c.self.inside.octets.now (omega arith) c.self.invariant

pub returns : goal.returns
returns c =
    first_packets c.self.inside.left c.args.n c.min.result c.self.inside.octets.now (omega arith) c.self.invariant
    ∙ ap (λ (ps : List (List ℕ)). take c.args.n ps) c.self.view_is
