use Rattle.fax_mhcode.proofs.FaultLaws.{FailsLine-one}
use Rattle.fax_mhcode.proofs.laws.faults_are_unique.Goals as goal

pub returns : goal.returns
returns c = FailsLine-one
