use Rattle.fax_pagestore.proofs.PageLaws.{faults_are_unique}
use Rattle.fax_pagestore.proofs.laws.faults_are_unique.Goals as goal

pub returns : goal.returns
returns c = faults_are_unique
