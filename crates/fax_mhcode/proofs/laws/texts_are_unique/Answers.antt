use Rattle.fax_mhcode.proofs.LineLaws.{SpellsLine-one}
use Rattle.fax_mhcode.proofs.laws.texts_are_unique.Goals as goal

pub returns : goal.returns
returns c = SpellsLine-one
