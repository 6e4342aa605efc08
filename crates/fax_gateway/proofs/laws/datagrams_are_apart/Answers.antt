use Rattle.fax_gateway.proofs.KeptApart.{are_apart}
use Rattle.fax_gateway.proofs.laws.datagrams_are_apart.Goals as goal

pub returns : goal.returns
returns c = are_apart
