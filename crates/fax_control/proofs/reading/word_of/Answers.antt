use Rattle.std.proofs.Common.{codes}
use Rattle.std.specs.Cmp.Lexicographic.{other_text}
use Rattle.fax_control.proofs.WordLemmas.{no_verb}
use Rattle.fax_control.proofs.reading.word_of.Goals as goal

pub returns-else-eq-9-clause-only : goal.returns-else-eq-9-clause-only
returns-else-eq-9-clause-only c = λ order says.
    let verb = c.in-Some.verb.now in
    no_verb c.args.text.now verb c.in-Some.rest.now order c.in-Some.ensures.some.0 c.in-Some.ensures.some.1
    (other_text verb (codes "ring") c.if-eq.ensures) (other_text verb (codes "peer") c.if-eq-2.ensures)
    (other_text verb (codes "hangup") c.if-eq-3.ensures) (other_text verb (codes "report") c.if-eq-4.ensures) (other_text verb (codes "refuse") c.if-eq-5.ensures)
    (other_text verb (codes "undelivered") c.if-eq-6.ensures) (other_text verb (codes "discard") c.if-eq-7.ensures) (other_text verb (codes "retry") c.if-eq-8.ensures)
    (other_text verb (codes "events") c.if-eq-9.ensures) says
