use Rattle.fax_gateway.proofs.DrivingLemmas.{asked_each}
use Rattle.fax_gateway.proofs.laws.refusals_are_asked.Goals as goal

pub returns : goal.returns
returns c = asked_each
