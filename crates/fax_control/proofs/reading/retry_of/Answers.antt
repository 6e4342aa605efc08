use Rattle.std.proofs.Common.{◌∙◌, sym, ap}
use Rattle.fax_control.specs.Words.{Retry}
use Rattle.fax_control.proofs.WordLemmas.{retry_spelled}
use Rattle.fax_control.proofs.reading.retry_of.Goals as goal

pub returns-in-Some-clause-only : goal.returns-in-Some-clause-only
returns-in-Some-clause-only c = λ order says.
    let (line, life, call, is, e, name, is_life, is_call) = retry_spelled c.args.rest.now order says in
    let (same, as_old, as_called) = c.in-Some.ensures.only line life call e name is_life is_call in
    ap (λ x. Retry x c.in-Some.call.life c.in-Some.call.call) same ∙ (ap (λ x. Retry line x c.in-Some.call.call) as_old ∙ (ap (λ x. Retry line life x) as_called ∙ sym is))

pub returns-in-None-clause-only : goal.returns-in-None-clause-only
returns-in-None-clause-only c = λ order says.
    let (line, life, call, is, e, name, is_life, is_call) = retry_spelled c.args.rest.now order says in
    absurd (c.in-None.ensures.only line life call e name is_life is_call)
