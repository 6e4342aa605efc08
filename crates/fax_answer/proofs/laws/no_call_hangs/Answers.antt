use Rattle.fax_answer.proofs.Silence as lemmas
use Rattle.fax_answer.proofs.laws.no_call_hangs.Goals as goal

pub returns : goal.returns
returns c = lemmas.no_call_hangs
