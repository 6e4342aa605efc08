use Rattle.fax_answer.proofs.InTime as lemmas
use Rattle.fax_answer.proofs.laws.no_timer_is_early.Goals as goal

pub returns : goal.returns
returns c = lemmas.no_timer_is_early
