use Rattle.fax_gateway.proofs.Living as lemmas
use Rattle.fax_gateway.proofs.laws.forwards_over_lives.Goals as goal

pub returns : goal.returns
returns c = lemmas.forwards_over_lives
