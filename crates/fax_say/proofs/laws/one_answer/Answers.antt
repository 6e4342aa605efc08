use Rattle.fax_say.proofs.LawLemmas.{one}
use Rattle.fax_say.proofs.laws.one_answer.Goals as goal

pub returns : goal.returns
returns c = one
