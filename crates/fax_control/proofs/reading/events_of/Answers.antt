use Rattle.std.proofs.Common.{codes, refl, sym, ◌∙◌, subst}
use Rattle.std.specs.Cmp.Lexicographic.{other_text}
use Rattle.fax_control.specs.Words.{HasNoSpace}
use Rattle.fax_control.proofs.SpaceLemmas.{has_space, cut_once, NoSpace-by_test}
use Rattle.fax_control.proofs.WordLemmas.{events_spelled}
use Rattle.fax_control.proofs.reading.events_of.Goals as goal

pub returns-in_err-what-clause-only : goal.returns-in_err-what-clause-only
returns-in_err-what-clause-only c = λ order says.
    let (line, is, e, name) = events_spelled c.args.rest.now order says in
    absurd (has_space (codes "frames") line (subst HasNoSpace e c.in_err-what.ensures.none))

pub returns-else-eq-clause-only : goal.returns-else-eq-clause-only
returns-else-eq-clause-only c = λ order says.
    let (line, is, e, name) = events_spelled c.args.rest.now order says in
    let cut = c.in_ok-what.ensures.some in
    let same = cut_once c.in_ok-what.what.now c.in_ok-what.line.now (codes "frames") line cut.1 (NoSpace-by_test (codes "frames") refl) (sym cut.0 ∙ e) in
    absurd (other_text c.in_ok-what.what.now (codes "frames") c.if-eq.ensures same.0)
