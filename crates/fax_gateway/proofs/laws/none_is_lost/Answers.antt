use Rattle.fax_gateway.proofs.Living as lemmas
use Rattle.fax_gateway.proofs.laws.none_is_lost.Goals as goal

pub returns : goal.returns
returns c = lemmas.none_is_lost
