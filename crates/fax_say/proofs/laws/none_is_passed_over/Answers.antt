use Rattle.fax_say.proofs.LawLemmas.{none}
use Rattle.fax_say.proofs.laws.none_is_passed_over.Goals as goal

pub returns : goal.returns
returns c = none
