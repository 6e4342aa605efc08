use Rattle.fax_gateway.proofs.AskedCalls.{unplaced_are_told}
use Rattle.fax_gateway.proofs.laws.unplaced_jobs_are_told.Goals as goal

pub returns : goal.returns
returns c = unplaced_are_told
