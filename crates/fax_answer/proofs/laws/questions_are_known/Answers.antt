use Rattle.fax_answer.proofs.Readings as lemmas
use Rattle.fax_answer.proofs.laws.questions_are_known.Goals as goal

pub returns : goal.returns
returns c = lemmas.questions_are_known
