use Rattle.std.proofs.Common.{◌∙◌, sym, subst}
use Rattle.fax_control.specs.Words.{HasNoSpace}
use Rattle.fax_control.proofs.SpaceLemmas.{has_space}
use Rattle.fax_control.proofs.WordLemmas.{frames_spelled}
use Rattle.fax_control.proofs.reading.frames_of.Goals as goal

pub returns-in-Some-clause-only : goal.returns-in-Some-clause-only
returns-in-Some-clause-only c = λ order says.
    let (is, name) = frames_spelled c.args.line.now order says in
    has_space c.in-Some.field-0.0.now c.in-Some.field-0.1.now (subst HasNoSpace c.in-Some.ensures.some.0 name.1)
