use Rattle.fax_answer.proofs.Readings as lemmas
use Rattle.fax_answer.proofs.laws.calls_go_on.Goals as goal

pub returns : goal.returns
returns c = lemmas.calls_go_on
