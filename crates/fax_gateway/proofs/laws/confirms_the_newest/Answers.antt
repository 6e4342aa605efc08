use Rattle.fax_gateway.proofs.Newest as lemmas
use Rattle.fax_gateway.proofs.laws.confirms_the_newest.Goals as goal

pub returns : goal.returns
returns c = lemmas.confirms_the_newest
