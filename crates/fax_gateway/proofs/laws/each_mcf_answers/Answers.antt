use Rattle.fax_gateway.proofs.McfAnswers as lemmas
use Rattle.fax_gateway.proofs.laws.each_mcf_answers.Goals as goal

pub returns : goal.returns
returns c = lemmas.each_mcf_answers
