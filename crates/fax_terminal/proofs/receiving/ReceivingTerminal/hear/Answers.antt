use Rattle.std.proofs.Common.{[], ◌∷◌, arith, inl, inr}
use Rattle.fax_gateway.specs.Driving.{most_datagrams}
use Rattle.fax_gateway.proofs.DrivingLemmas.{grows_more, grows_none}
use Rattle.fax_terminal.specs.Turns.{AnswererStops, EachAnswering}
use Rattle.fax_terminal.proofs.AnsweringLemmas.{answerer_hears_all, answerer_hears_more, answerer_hears_none, answerer_stops, on_err}
use Rattle.fax_terminal.proofs.receiving.ReceivingTerminal.hear.Goals as goal

pub loop-i-init : goal.loop-i-init
loop-i-init g c = record { sent = grows_none _; heard = λ setup leg r. answerer_hears_none setup leg c.args.now _ _ r }

pub loop-i-preserved : goal.loop-i-preserved
loop-i-preserved g c = record {
  sent = grows_more [] [] _ _ _ c.loop-i.invariant.sent c.in-Some.ensures.sent;
  heard = λ setup leg r.
      answerer_hears_more setup leg c.args.now c.loop-i._i _ _ _ _ _ _ c.in-Some.ensures.received (λ k. c.in_ok-hear_one-in-Some.ensures.heard setup k) (c.loop-i.invariant.heard setup leg r);
}

pub returns-in-None-clause-sent : goal.returns-in-None-clause-sent
returns-in-None-clause-sent g c = grows_more [] [] _ _ _ c.loop-i.invariant.sent c.in-None.ensures.sent

pub returns-in-None-clause-heard : goal.returns-in-None-clause-heard
returns-in-None-clause-heard g c = λ setup leg r.
    answerer_hears_all setup leg c.args.now c.loop-i._i most_datagrams _ _ _ _ (omega (arith, c.loop-i-test.true)) c.in-None.ensures.received (c.loop-i.invariant.heard setup leg r)

pub returns-in_err-hear_one-in-Some-clause-sent : goal.returns-in_err-hear_one-in-Some-clause-sent
returns-in_err-hear_one-in-Some-clause-sent g c = grows_more [] [] _ _ _ c.loop-i.invariant.sent c.in-Some.ensures.sent

pub returns-in_err-hear_one-in-Some-clause-err : goal.returns-in_err-hear_one-in-Some-clause-err
returns-in_err-hear_one-in-Some-clause-err g c =
    let told = g.E.End.told in
    let stops : EachAnswering c.args.self.now (λ setup leg. AnswererStops setup leg c.args.now most_datagrams (told c.args.end.now) (told c.receive.new.self) c.hear_one.new.self) =
    λ setup leg r.
    answerer_stops setup leg c.args.now c.loop-i._i most_datagrams _ _ _ _ _ _ (omega (arith, c.loop-i-test.true)) c.in-Some.ensures.received (λ k. c.in_err-hear_one-in-Some.ensures.err setup k)
    (c.loop-i.invariant.heard setup leg r) in
    on_err c.from_residual.result stops

pub returns-clause-heard : goal.returns-clause-heard
returns-clause-heard g c = λ setup leg r.
    answerer_hears_all setup leg c.args.now c.loop-i._i most_datagrams _ _ _ _ (omega (arith, c.loop-i.auto._i-end)) (grows_none _) (c.loop-i.invariant.heard setup leg r)

pub returns-clause-sent : goal.returns-clause-sent
returns-clause-sent g c = c.loop-i.invariant.sent
