use Rattle.std.proofs.Common.{[], Option}
use Rattle.fax_gateway.specs.CallingLegs.{CallingLeg}
use Rattle.fax_gateway.specs.Setups.{Setup}
use Rattle.fax_gateway.specs.Wires.{Grows}
use Rattle.fax_terminal.specs.Turns.{AnswererHears, IsAnswering}
use Rattle.fax_terminal.proofs.receiving.ReceivingTerminal.hear.Given as goal

-- so many datagrams were heard, and none was sent
abbrev pub invariant-loop-i : goal.invariant-loop-i
invariant-loop-i g l =
    let told = g.E.End.told in
    record {
      sent : Grows [] (told l.fn.end).sent (told l.end).sent;
      heard :
          (setup : Setup) (leg : Option CallingLeg) → IsAnswering setup leg l.fn.self
          → AnswererHears setup leg l.now l._i (told l.fn.end) (told l.end) l.self;
    }
