use Rattle.fax_terminal.proofs.EndLemmas.{asks, end_receives}
use Rattle.fax_terminal.proofs.end.WireEndEnd.receive.Goals as goal

pub returns-in-Ok-clause-received : goal.returns-in-Ok-clause-received
returns-in-Ok-clause-received g c =
    let known = g.W.Wire.known in
    end_receives c.receive.new.buffer c.in-Ok.came c.receive.result (known c.args.self.now.wire) (known c.receive.new.self) c.in-Ok.is c.receive.ensures.received

pub returns-in-Ok-clause-asks : goal.returns-in-Ok-clause-asks
returns-in-Ok-clause-asks g c =
    let known = g.W.Wire.known in
    asks c.receive.new.buffer c.receive.result (known c.args.self.now.wire) (known c.receive.new.self) c.receive.ensures.received
