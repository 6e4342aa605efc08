use Rattle.fax_answer.proofs.EachMcf as lemmas
use Rattle.fax_answer.proofs.laws.each_mcf_answers.Goals as goal

pub returns : goal.returns
returns c = lemmas.each_mcf
