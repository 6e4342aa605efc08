use Rattle.fax_call.proofs.Texts as lemmas
use Rattle.fax_call.proofs.laws.texts_are_one.Goals as goal

pub returns : goal.returns
returns c = lemmas.texts_are_one
