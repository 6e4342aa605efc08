use Rattle.fax_mrcode.proofs.FaultLaws.{FailsLine-one}
use Rattle.fax_mrcode.proofs.laws.faults_are_unique.Goals as goal

pub returns : goal.returns
returns c = FailsLine-one
