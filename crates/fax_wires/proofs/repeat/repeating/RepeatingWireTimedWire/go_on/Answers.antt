use Rattle.fax_wires.proofs.repeat.Sending.{both_again, within_repeated}
use Rattle.fax_wires.proofs.repeat.repeating.RepeatingWireTimedWire.go_on.Goals as goal

pub invariant_of-self : goal.invariant_of-self
invariant_of-self g c = record {
  calling = within_repeated c.self.inside.policy c.max-self-inside.result c.self.inside.calling c.send_again.new.last c.send_again.ensures.last c.self.invariant.calling;
  called = within_repeated c.self.inside.policy c.max-self-inside.result c.self.inside.called c.send_again-2.new.last c.send_again-2.ensures.last c.self.invariant.called;
  repeats = both_again c.self.inside.tells c.self.inside.policy c.max-self-inside.result c.self.inside.calling c.self.inside.called c.send_again.new.last c.send_again-2.new.last
      (g.W.Wire.known c.self.inside.wire).sent (g.W.Wire.known c.send_again.new.wire).sent (g.W.Wire.known c.send_again-2.new.wire).sent
      c.self.invariant.calling c.self.invariant.called c.send_again.ensures.last c.send_again-2.ensures.last c.self.invariant.repeats c.send_again.ensures.sent c.send_again-2.ensures.sent;
}
