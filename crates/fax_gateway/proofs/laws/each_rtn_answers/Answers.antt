use Rattle.fax_gateway.proofs.RtnAnswers as lemmas
use Rattle.fax_gateway.proofs.laws.each_rtn_answers.Goals as goal

pub returns : goal.returns
returns c = lemmas.each_rtn_answers
