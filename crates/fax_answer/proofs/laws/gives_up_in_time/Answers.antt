use Rattle.fax_answer.proofs.InTime as lemmas
use Rattle.fax_answer.proofs.laws.gives_up_in_time.Goals as goal

pub returns : goal.returns
returns c = lemmas.gives_up_in_time
