use Rattle.fax_desk.proofs.LawLemmas.{done_after}
use Rattle.fax_desk.proofs.laws.answers_are_what_was_done.Goals as goal

pub returns : goal.returns
returns c = done_after
