use Rattle.std.proofs.Common.{◌↔◌, ◌<◌, Bool, IsTrue, List, ◌++◌, sym, subst}
use Rattle.fax_gateway.specs.Driving.{Entry, failed_in_a_row, most_failed, receipts}
use Rattle.fax_pagestore.specs.Pages.{PageValue}
use Rattle.fax_loop.specs.declared.unstored.Unstored.{Unstored}
use Rattle.fax_loop.specs.Exchanges.{answerer_after, caller_after, log_after, trace_after}
use Rattle.fax_loop.proofs.ExchangeLemmas.{caller_after-job, round_more}
use Rattle.fax_loop.proofs.exchange.Parties.round.Goals as goal

pub returns-clause-played : goal.returns-clause-played
returns-clause-played g c = λ setup writes rounds before writing at few unreported goes p.
    let job = c.args.job.now in
    let calling = c.in_ok-turn.ensures.turned setup writes (caller_after setup writes job rounds) writing (caller_after-job setup writes job rounds) p.caller in
    let (turn, is_turn, happens, made, told, wire) = c.turn-turned.ensures.turned setup writes (trace_after rounds) (log_after rounds) writing p.gateway p.driver in
    let called = c.in-Ok.ensures setup (answerer_after setup rounds) p.answerer in
    let (round, same, played) = round_more setup writes job rounds c.args.now before _ _ _ _ turn at few unreported goes p calling is_turn happens made (λ (page : PageValue) (is_kept : Bool) (old new : Unstored). Unit {0}) _ _ c.in-Ok.page called c.in_ok-keep_page.ensures in (
      round,
      subst (λ (t : List Entry). IsTrue c.turn-turned.result.goes_on ↔ (failed_in_a_row (receipts (t ++ log_after rounds)) < most_failed)) (sym same) (c.turn-turned.ensures.goes_on (turn ++ log_after rounds) made),
      played,
    )
