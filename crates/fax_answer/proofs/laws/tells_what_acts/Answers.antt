use Rattle.fax_answer.proofs.Tellings as lemmas
use Rattle.fax_answer.proofs.laws.tells_what_acts.Goals as goal

pub returns : goal.returns
returns c = lemmas.tells_what_acts
