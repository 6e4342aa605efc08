use Rattle.fax_wires.proofs.holding.Held.{holds_beside, holds_given, holds_lost, holds_nothing}
use Rattle.fax_wires.proofs.holding.laws.turns_are_held.Goals as goal

pub returns-clause-nothing : goal.returns-clause-nothing
returns-clause-nothing c = holds_nothing

pub returns-clause-given : goal.returns-clause-given
returns-clause-given c = holds_given

pub returns-clause-lost : goal.returns-clause-lost
returns-clause-lost c = holds_lost

pub returns-clause-beside : goal.returns-clause-beside
returns-clause-beside c = holds_beside
