use Rattle.fax_answer.proofs.Confirmations as lemmas
use Rattle.fax_answer.proofs.laws.gives_confirmations.Goals as goal

pub returns : goal.returns
returns c = lemmas.gives_confirmations
