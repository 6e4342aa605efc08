use Rattle.fax_call.proofs.Numbered as lemmas
use Rattle.fax_call.proofs.laws.numbers_are_fixed.Goals as goal

pub returns : goal.returns
returns c = lemmas.numbers_are_fixed
