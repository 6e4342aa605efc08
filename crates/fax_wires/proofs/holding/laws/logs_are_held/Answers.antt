use Rattle.fax_wires.proofs.holding.Held.{logs_are_held}
use Rattle.fax_wires.proofs.holding.laws.logs_are_held.Goals as goal

pub returns : goal.returns
returns c = logs_are_held
