use Rattle.std.proofs.Common.{◌-◌, ◌+◌, ◌++◌, List, ℕ, sym, ◌∙◌, ap, arith}
use Rattle.std.proofs.lemmas.Result.{err_from_is_err_and}
use Rattle.fax_command.specs.RowLines.{text_of_lines}
use Rattle.fax_capture.specs.Scripts.{tick_lines}
use Rattle.fax_capture.proofs.StopLemmas.{Stops-more, Stops-same}
use Rattle.fax_capture.proofs.TickLemmas.{text_with_tick, text_without_ticks}
use Rattle.fax_capture.proofs.script.push_ticks.Goals as goal

pub loop-tick-preserved : goal.loop-tick-preserved
loop-tick-preserved c =
    let tick = c.loop-tick.tick in
    let to = c.args.to in
    ap (λ (t : List ℕ). t ++ text_of_lines (tick_lines (tick + 1) (to - (tick + 1)))) c.in_ok-push_tick.ensures.ok
    ∙ sym (text_with_tick c.loop-tick.text.items tick to c.loop-tick-test.true)
    ∙ c.loop-tick.invariant

pub returns-in_err-push_tick-clause-err : goal.returns-in_err-push_tick-clause-err
returns-in_err-push_tick-clause-err c =
    let tick = c.loop-tick.tick in
    let to = c.args.to in
    let p = err_from_is_err_and c.from_residual.result c.from_residual.ensures.1 in
    rw (p.1, p.2)
    (Stops-same _ _ _ (sym (text_with_tick c.loop-tick.text.items tick to c.loop-tick-test.true) ∙ c.loop-tick.invariant)
    (Stops-more _ _ (text_of_lines (tick_lines (tick + 1) (to - (tick + 1)))) c.in_err-push_tick.ensures.err))

pub returns-clause-ok : goal.returns-clause-ok
returns-clause-ok c =
    sym (text_without_ticks c.loop-tick.text.items c.loop-tick.tick c.args.to (omega (arith, c.loop-tick-test.false))) ∙ c.loop-tick.invariant
