use Rattle.fax_gateway.proofs.Chained.{chains_hear}
use Rattle.fax_gateway.proofs.laws.chains_hear.Goals as goal

pub returns : goal.returns
returns c = chains_hear
