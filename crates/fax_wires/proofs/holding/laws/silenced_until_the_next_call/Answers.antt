use Rattle.fax_wires.proofs.holding.Held.{silenced_until}
use Rattle.fax_wires.proofs.holding.laws.silenced_until_the_next_call.Goals as goal

pub returns : goal.returns
returns c = silenced_until
