use Rattle.std.proofs.Common.{◌≡◌, ◌-◌, ◌+◌, ◌≤◌, ◌<◌, ℕ, Err, length, sym, ◌∙◌, ap, arith}
use Rattle.std.proofs.lemmas.Result.{err_from_is_err_and}
use Rattle.fax_capture.specs.pcap.Captures.{times_in}
use Rattle.fax_capture.proofs.pcap.TimesLemmas.{none_left, end_of_options, last_option, other_option, bad_option, bad_times}
use Rattle.fax_capture.proofs.pcap.interface.read_times.Goals as goal

pub returns-then-rest-lt4 : goal.returns-then-rest-lt4
returns-then-rest-lt4 c =
    sym c.loop.invariant ∙ end_of_options (length c.args.options.now - c.loop.counter) c.args.order c.loop.rest.now c.loop.times c.if-rest-lt4.true

pub returns-in_err-option : goal.returns-in_err-option
returns-in_err-option c =
    let p = err_from_is_err_and c.from_residual.result c.from_residual.ensures.1 in
    rw (p.1, p.2)
    (sym c.loop.invariant
    ∙ bad_option (length c.args.options.now - c.loop.counter) c.args.order c.loop.rest.now c.loop.times _ (omega (arith, c.loop-test.true)) (omega (arith, c.if-rest-lt4.false)) c.in_err-option.ensures)

pub returns-then-option-eq-END_OF_OPTIONS : goal.returns-then-option-eq-END_OF_OPTIONS
returns-then-option-eq-END_OF_OPTIONS c =
    sym c.loop.invariant
    ∙ last_option (length c.args.options.now - c.loop.counter) c.args.order c.loop.rest.now c.loop.times _ (omega (arith, c.loop-test.true)) (omega (arith, c.if-rest-lt4.false)) c.in_ok-option.ensures c.if-option-eq-END_OF_OPTIONS.true

pub returns-in_err-times : goal.returns-in_err-times
returns-in_err-times c =
    let p = err_from_is_err_and c.from_residual-in_err-times.result c.from_residual-in_err-times.ensures.1 in
    rw (p.1, p.2)
    (sym c.loop.invariant
    ∙ bad_times (length c.args.options.now - c.loop.counter) c.args.order c.loop.rest.now c.loop.times _ _ (omega (arith, c.loop-test.true)) (omega (arith, c.if-rest-lt4.false)) c.in_ok-option.ensures c.if-option-eq-END_OF_OPTIONS.false c.in_err-times.ensures)

pub loop-preserved : goal.loop-preserved
loop-preserved c =
    let less : length c.args.options.now - (c.loop.counter + 1) ≡ length c.args.options.now - c.loop.counter - 1 = omega arith in
    ap (λ (n : ℕ). times_in n c.args.order c.in_ok-option.option.after.now c.in_ok-times.times) less
    ∙ sym (other_option (length c.args.options.now - c.loop.counter) c.args.order c.loop.rest.now c.loop.times c.in_ok-times.times _ (omega (arith, c.loop-test.true)) (omega (arith, c.if-rest-lt4.false)) c.in_ok-option.ensures c.if-option-eq-END_OF_OPTIONS.false c.in_ok-times.ensures)
    ∙ c.loop.invariant

pub returns : goal.returns
returns c =
    let none : length c.args.options.now - c.loop.counter ≡ 0 = omega (arith, c.loop-test.false) in
    sym c.loop.invariant ∙ ap (λ (n : ℕ). times_in n c.args.order c.loop.rest.now c.loop.times) none ∙ none_left c.args.order c.loop.rest.now c.loop.times
