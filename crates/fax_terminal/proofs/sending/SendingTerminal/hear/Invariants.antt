use Rattle.std.proofs.Common.{[], Some}
use Rattle.fax_call.specs.Following.{IsJobOfCall}
use Rattle.fax_call.specs.Writings.{Writing}
use Rattle.fax_jobs.specs.Jobs.{JobValue}
use Rattle.fax_gateway.specs.CalledLegs.{CalledLeg}
use Rattle.fax_gateway.specs.Reached.{IsCalled}
use Rattle.fax_gateway.specs.Setups.{Setup}
use Rattle.fax_gateway.specs.Wires.{Grows}
use Rattle.fax_terminal.specs.Turns.{CallerHears}
use Rattle.fax_terminal.proofs.sending.SendingTerminal.hear.Given as goal

-- so many datagrams were heard, and none was sent
abbrev pub invariant-loop-i : goal.invariant-loop-i
invariant-loop-i g l =
    let told = g.E.End.told in
    record {
      job : (job : JobValue) → IsJobOfCall l.fn.self.caller.procedure job → IsJobOfCall l.self.caller.procedure job;
      sent : Grows [] (told l.fn.end).sent (told l.end).sent;
      heard :
          (setup : Setup) (writes : Writing) (k : CalledLeg) → IsCalled setup writes (Some k) l.fn.self
          → CallerHears setup writes k l.now l._i (told l.fn.end) (told l.end) l.self;
    }
