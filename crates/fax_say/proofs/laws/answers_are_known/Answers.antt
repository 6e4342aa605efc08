use Rattle.fax_say.proofs.LawLemmas.{known}
use Rattle.fax_say.proofs.laws.answers_are_known.Goals as goal

pub returns : goal.returns
returns c = known
