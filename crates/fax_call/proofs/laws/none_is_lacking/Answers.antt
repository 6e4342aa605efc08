use Rattle.fax_call.proofs.Lacking as lemmas
use Rattle.fax_call.proofs.laws.none_is_lacking.Goals as goal

pub returns : goal.returns
returns c = lemmas.none_is_lacking
