use Rattle.fax_answer.proofs.Silence as lemmas
use Rattle.fax_answer.proofs.laws.little_is_given.Goals as goal

pub returns : goal.returns
returns c = lemmas.little_is_given
