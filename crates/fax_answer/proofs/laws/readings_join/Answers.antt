use Rattle.fax_answer.proofs.Readings as lemmas
use Rattle.fax_answer.proofs.laws.readings_join.Goals as goal

pub returns : goal.returns
returns c = lemmas.readings_join
