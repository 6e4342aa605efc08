use Rattle.fax_runcodes.proofs.RunLaws.{SpellsRun-one}
use Rattle.fax_runcodes.proofs.laws.runs_are_unique.Goals as goal

pub returns : goal.returns
returns c = SpellsRun-one
