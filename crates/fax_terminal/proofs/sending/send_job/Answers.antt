use Rattle.std.proofs.Common.{Option, IfSome, subst}
use Rattle.fax_terminal.specs.declared.sending.SentJob.{SentJob}
use Rattle.fax_terminal.specs.Calls.{TellsLeg}
use Rattle.fax_terminal.specs.Ends.{traffic_of}
use Rattle.fax_terminal.proofs.EndLemmas.{nothing_received, nothing_sent}
use Rattle.fax_terminal.proofs.WholeCalls.{calls_more, calls_none, sends_job, tells_call}
use Rattle.fax_terminal.proofs.sending.send_job.Goals as goal

pub loop-init : goal.loop-init
loop-init g c =
    let told = traffic_of (g.W.Wire.known c.args.end.now.wire) in
    record { job = c.in_ok-terminal.ensures.job; call = calls_none c.args.settings c.args.job.now c.in-Some.start told c.in_ok-terminal.terminal c.in_ok-terminal.ensures.begun }

pub loop-preserved : goal.loop-preserved
loop-preserved g c =
    let known = g.W.Wire.known in
    record {
      job = c.in_ok-turn.ensures.job;
      call = calls_more c.args.settings c.args.job.now c.in-Some-wait.now (traffic_of (known c.args.end.now.wire)) (traffic_of (known c.loop.end.wire)) (traffic_of (known c.go_on.new.self)) (traffic_of (known c.turn.new.end.wire))
          c.loop.terminal c.turn.new.self (nothing_received (known c.loop.end.wire) (known c.go_on.new.self) c.go_on.ensures.told.received) (nothing_sent (known c.loop.end.wire) (known c.go_on.new.self) c.go_on.ensures.told.sent)
          c.in_ok-turn.ensures.turned c.loop.invariant.call;
    }

pub turn-requires : goal.turn-requires
turn-requires g c = c.loop.invariant.job

pub returns-in-loop-clause-carried : goal.returns-in-loop-clause-carried
returns-in-loop-clause-carried g c =
    let known = g.W.Wire.known in
    let called = calls_more c.args.settings c.args.job.now c.in-Some-wait.now (traffic_of (known c.args.end.now.wire)) (traffic_of (known c.loop.end.wire)) (traffic_of (known c.go_on.new.self)) (traffic_of (known c.turn.new.end.wire))
    c.loop.terminal c.turn.new.self (nothing_received (known c.loop.end.wire) (known c.go_on.new.self) c.go_on.ensures.told.received) (nothing_sent (known c.loop.end.wire) (known c.go_on.new.self) c.go_on.ensures.told.sent)
    c.in_ok-turn.ensures.turned c.loop.invariant.call in
    sends_job c.args.settings c.args.job.now (traffic_of (known c.args.end.now.wire)) (traffic_of (known c.turn.new.end.wire)) c.turn.new.self c.in-Some-sent.sent
    (λ setup writes l r. subst (λ (o : Option SentJob). IfSome o (TellsLeg writes l)) c.in-Some-sent.is (c.sent.ensures.told setup writes l r)) called

pub returns-in-loop-clause-tells : goal.returns-in-loop-clause-tells
unfolding returns-in-loop-clause-carried
returns-in-loop-clause-tells g c =
    let known = g.W.Wire.known in
    tells_call c.args.settings c.requires c.args.job.now (traffic_of (known c.args.end.now.wire)) (traffic_of (known c.turn.new.end.wire)) c.in-Some-sent.sent (returns-in-loop-clause-carried g c)
