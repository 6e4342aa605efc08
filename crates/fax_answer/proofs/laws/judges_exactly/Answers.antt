use Rattle.fax_answer.proofs.Judging as lemmas
use Rattle.fax_answer.proofs.laws.judges_exactly.Goals as goal

pub returns : goal.returns
returns c = lemmas.judges_exactly
