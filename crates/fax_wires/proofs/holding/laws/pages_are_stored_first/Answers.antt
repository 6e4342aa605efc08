use Rattle.fax_wires.proofs.holding.Held.{silenced_until}
use Rattle.std.proofs.Common.{[]}
use Rattle.fax_wires.proofs.holding.laws.pages_are_stored_first.Goals as goal

pub returns : goal.returns
returns c = λ given earlier. silenced_until [] earlier given tt
