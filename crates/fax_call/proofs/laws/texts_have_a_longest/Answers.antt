use Rattle.fax_call.proofs.Longest as lemmas
use Rattle.fax_call.proofs.laws.texts_have_a_longest.Goals as goal

pub returns : goal.returns
returns c = lemmas.texts_have_a_longest
