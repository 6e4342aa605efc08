use Rattle.fax_gateway.proofs.Allowed as lemmas
use Rattle.fax_gateway.proofs.laws.none_is_lacking.Goals as goal

pub returns : goal.returns
returns c = lemmas.none_lacking
