use Rattle.fax_gateway.proofs.RtnAnswers as lemmas
use Rattle.fax_gateway.proofs.laws.commands_are_judged.Goals as goal

pub returns : goal.returns
returns c = lemmas.commands_are_judged
