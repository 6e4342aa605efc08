use Rattle.fax_answer.proofs.DueLemmas.{rests_before}
use Rattle.fax_answer.proofs.laws.rests_before_it_is_due.Goals as goal

pub returns : goal.returns
returns c = rests_before
