use Rattle.std.proofs.Common.{[], arith}
use Rattle.fax_gateway.specs.Driving.{most_datagrams}
use Rattle.fax_gateway.proofs.DrivingLemmas.{grows_more, grows_none}
use Rattle.fax_terminal.proofs.CallingLemmas.{caller_hears_all, caller_hears_more, caller_hears_none}
use Rattle.fax_terminal.proofs.sending.SendingTerminal.hear.Goals as goal

pub loop-i-init : goal.loop-i-init
loop-i-init g c = record { job = λ job is. is; sent = grows_none _; heard = λ setup writes l r. caller_hears_none setup writes l c.args.now _ _ r }

pub loop-i-preserved : goal.loop-i-preserved
loop-i-preserved g c = record {
  job = λ job is. c.in_ok-hear_one-in-Some.ensures.job job (c.loop-i.invariant.job job is);
  sent = grows_more [] [] _ _ _ c.loop-i.invariant.sent c.in-Some.ensures.sent;
  heard = λ setup writes l r.
      caller_hears_more setup writes l c.args.now c.loop-i._i _ _ _ _ _ _ c.in-Some.ensures.received (λ k. c.in_ok-hear_one-in-Some.ensures.heard setup writes k) (c.loop-i.invariant.heard setup writes l r);
}

pub returns-in-None-clause-sent : goal.returns-in-None-clause-sent
returns-in-None-clause-sent g c = grows_more [] [] _ _ _ c.loop-i.invariant.sent c.in-None.ensures.sent

pub returns-in-None-clause-heard : goal.returns-in-None-clause-heard
returns-in-None-clause-heard g c = λ setup writes l r.
    caller_hears_all setup writes l c.args.now c.loop-i._i most_datagrams _ _ _ _ (omega (arith, c.loop-i-test.true)) c.in-None.ensures.received (c.loop-i.invariant.heard setup writes l r)

pub returns-in_err-hear_one-in-Some-clause-sent : goal.returns-in_err-hear_one-in-Some-clause-sent
returns-in_err-hear_one-in-Some-clause-sent g c = grows_more [] [] _ _ _ c.loop-i.invariant.sent c.in-Some.ensures.sent

pub returns-clause-heard : goal.returns-clause-heard
returns-clause-heard g c = λ setup writes l r.
    caller_hears_all setup writes l c.args.now c.loop-i._i most_datagrams _ _ _ _ (omega (arith, c.loop-i.auto._i-end)) (grows_none _) (c.loop-i.invariant.heard setup writes l r)

pub returns-clause-sent : goal.returns-clause-sent
returns-clause-sent g c = c.loop-i.invariant.sent

pub returns-clause-job : goal.returns-clause-job
returns-clause-job g c = c.loop-i.invariant.job

pub returns-in-None-clause-job : goal.returns-in-None-clause-job
returns-in-None-clause-job g c = c.loop-i.invariant.job

pub returns-in_err-hear_one-in-Some-clause-job : goal.returns-in_err-hear_one-in-Some-clause-job
returns-in_err-hear_one-in-Some-clause-job g c = λ job is. c.hear_one.ensures.job job (c.loop-i.invariant.job job is)
