use Rattle.fax_answer.proofs.DueLemmas.{acts_from}
use Rattle.fax_answer.proofs.laws.acts_from_when_it_is_due.Goals as goal

pub returns : goal.returns
returns c = acts_from
