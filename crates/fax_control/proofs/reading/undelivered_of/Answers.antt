use Rattle.std.proofs.Common.{◌∙◌, sym, subst}
use Rattle.fax_control.specs.Words.{HasNoSpace}
use Rattle.fax_control.proofs.SpaceLemmas.{has_space}
use Rattle.fax_control.proofs.WordLemmas.{undelivered_spelled}
use Rattle.fax_control.proofs.reading.undelivered_of.Goals as goal

pub returns-in-Some-clause-only : goal.returns-in-Some-clause-only
returns-in-Some-clause-only c = λ order says.
    let (line, is, e, name) = undelivered_spelled c.args.rest.now order says in
    has_space c.in-Some.field-0.0.now c.in-Some.field-0.1.now (subst HasNoSpace (sym e ∙ c.in-Some.ensures.some.0) name.1)
