use Rattle.fax_terminal.specs.Ends.{traffic_of}
use Rattle.fax_terminal.proofs.WholeCalls.{IsAnsweringOver}
use Rattle.fax_terminal.proofs.receiving.receive_call.Given as goal

-- these turns led to it, and the store to this
abbrev pub invariant-loop : goal.invariant-loop
invariant-loop g l =
    let known = g.W.Wire.known in
    IsAnsweringOver g.K.PageStore.keeps l.fn.settings l.first (traffic_of (known l.fn.end.wire)) (traffic_of (known l.end.wire)) l.fn.store l.store l.terminal
