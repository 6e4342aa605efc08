use Rattle.std.proofs.Common.{subst}
use Rattle.fax_wires.specs.repeat.Policies.{due_of}
use Rattle.fax_wires.specs.holding.Holding.{as_told, due_on}
use Rattle.fax_line.specs.Actions.{LineValue, TellsWire}
use Rattle.fax_line.proofs.Goings.{line_of}
use Rattle.fax_line.proofs.Heard.{tells_line}
use Rattle.fax_line.proofs.line.Line.hang_up.Goals as goal

pub returns-clause-tells : goal.returns-clause-tells
returns-clause-tells g c =
    let was = c.self.inside.wire in
    let is = c.hang_up.new.self in
    let new : LineValue = line_of c.self.inside.gateway c.self.inside.engine (as_told is) (due_of due_on is) is is.peers c.self.inside.turned in
    subst (λ (l : LineValue). TellsWire l new) c.self.view_is
    (tells_line c.self.inside.gateway c.self.inside.engine (as_told was) (as_told is) (due_of due_on was) (due_of due_on is) was is
    was.peers is.peers c.self.inside.turned c.hang_up.ensures.told c.hang_up.ensures.makes)
