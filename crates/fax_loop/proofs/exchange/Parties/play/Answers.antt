use Rattle.std.proofs.Common.{◌≡◌, IsTrue, IsSome, is_some, false, arith, rules}
use Rattle.fax_loop.specs.Exchanges.{most_rounds, trace_after}
use Rattle.fax_loop.proofs.ExchangeLemmas.{ended_failed, ended_last, ended_reported, gone_more, gone_none}
use Rattle.fax_loop.proofs.exchange.Parties.play.Goals as goal

pub loop-round-init : goal.loop-round-init
loop-round-init g c = record { job = search rules; gone = λ setup writes before writing p. gone_none setup writes c.args.job.now before _ _ p }

pub loop-round-preserved : goal.loop-round-preserved
loop-round-preserved g c = record {
  job = c.in_ok-goes_on.ensures.job;
  gone = λ setup writes before writing p.
      let no : is_some c.report.result ≡ false = search rules in
      let on : IsTrue c.loop-round.goes_on = search rules in
      gone_more setup writes c.args.job.now c.loop-round.round _ c.loop-round.goes_on _ before _ _ _ _ c.report.result c.loop-round-test.true (omega arith) on no (λ rounds. c.report.ensures.told setup writes (trace_after rounds))
      (λ rounds. c.in_ok-goes_on.ensures.played setup writes rounds before writing) (c.loop-round.invariant.gone setup writes before writing p);
}

pub returns-then-not-goes_on : goal.returns-then-not-goes_on
returns-then-not-goes_on g c = λ setup writes before writing p.
    let off : c.loop-round.goes_on ≡ false = search rules in
    ended_failed setup writes c.args.job.now c.loop-round.round c.loop-round.goes_on before _ _ off (c.loop-round.invariant.gone setup writes before writing p)

pub returns-then-is_some : goal.returns-then-is_some
returns-then-is_some g c = λ setup writes before writing p.
    let some : IsSome c.report.result = search rules in
    ended_reported setup writes c.args.job.now c.loop-round.round c.loop-round.goes_on before _ _ c.report.result some (λ rounds. c.report.ensures.told setup writes (trace_after rounds)) (c.loop-round.invariant.gone setup writes before writing p)

pub returns : goal.returns
returns g c = λ setup writes before writing p.
    let last : c.loop-round.round ≡ most_rounds = omega arith in
    ended_last setup writes c.args.job.now c.loop-round.round c.loop-round.goes_on before _ _ last (c.loop-round.invariant.gone setup writes before writing p)
