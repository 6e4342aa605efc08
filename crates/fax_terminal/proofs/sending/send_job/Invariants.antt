use Rattle.fax_call.specs.Following.{IsJobOfCall}
use Rattle.fax_terminal.specs.Ends.{traffic_of}
use Rattle.fax_terminal.proofs.WholeCalls.{IsCallingOver}
use Rattle.fax_terminal.proofs.sending.send_job.Given as goal

-- the call is that of the job, and these turns led to it
abbrev pub invariant-loop : goal.invariant-loop
invariant-loop g l =
    let known = g.W.Wire.known in
    record {
      job : IsJobOfCall l.terminal.caller.procedure l.job;
      call : IsCallingOver l.fn.settings l.job (traffic_of (known l.fn.end.wire)) (traffic_of (known l.end.wire)) l.terminal;
    }
