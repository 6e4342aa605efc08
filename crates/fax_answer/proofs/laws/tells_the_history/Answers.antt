use Rattle.fax_answer.proofs.Tellings as lemmas
use Rattle.fax_answer.proofs.laws.tells_the_history.Goals as goal

pub returns : goal.returns
returns c = lemmas.tells_the_history
