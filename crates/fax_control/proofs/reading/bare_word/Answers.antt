use Rattle.std.proofs.Common.{codes}
use Rattle.std.specs.Cmp.Lexicographic.{other_text}
use Rattle.fax_control.proofs.WordLemmas.{no_bare_word}
use Rattle.fax_control.proofs.reading.bare_word.Goals as goal

pub returns-else-eq-6-clause-only : goal.returns-else-eq-6-clause-only
returns-else-eq-6-clause-only c = λ order says.
    let text = c.args.text.now in
    no_bare_word text order c.requires (other_text text (codes "status") c.if-eq.ensures) (other_text text (codes "metrics") c.if-eq-2.ensures)
    (other_text text (codes "events") c.if-eq-3.ensures) (other_text text (codes "stop") c.if-eq-4.ensures)
    (other_text text (codes "undelivered") c.if-eq-5.ensures) (other_text text (codes "reload") c.if-eq-6.ensures) says
