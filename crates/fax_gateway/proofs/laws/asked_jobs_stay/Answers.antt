use Rattle.fax_gateway.proofs.AskedCalls.{asked_stay}
use Rattle.fax_gateway.proofs.laws.asked_jobs_stay.Goals as goal

pub returns : goal.returns
returns c = asked_stay
