use Rattle.fax_mrcode.proofs.FaultLaws.{SpellsLine-not_fails}
use Rattle.fax_mrcode.proofs.laws.lines_dont_fail.Goals as goal

pub returns : goal.returns
returns c = SpellsLine-not_fails
