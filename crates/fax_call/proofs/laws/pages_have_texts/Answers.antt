use Rattle.fax_call.proofs.Texts as lemmas
use Rattle.fax_call.proofs.laws.pages_have_texts.Goals as goal

pub returns : goal.returns
returns c = lemmas.pages_have_texts
