use Rattle.std.proofs.Common.{codes}
use Rattle.std.specs.Cmp.Lexicographic.{other_text}
use Rattle.fax_control.proofs.OptionLemmas.{peer_is}
use Rattle.fax_control.proofs.reading.peer_address.Goals as goal

pub returns-in-Ok-clause-only : goal.returns-in-Ok-clause-only
returns-in-Ok-clause-only c = λ address says.
    peer_is c.args.leg c.args.word.now c.in-Ok.address address (other_text c.args.word.now (codes "any") c.if-eq.ensures) c.in-Ok.ensures.value says
