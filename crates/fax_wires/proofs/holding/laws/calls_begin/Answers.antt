use Rattle.fax_wires.proofs.holding.Held.{begins}
use Rattle.fax_wires.proofs.holding.laws.calls_begin.Goals as goal

pub returns : goal.returns
returns c = begins
