use Rattle.fax_ifp.proofs.SlotLaws.{extensions_say_nothing}
use Rattle.fax_ifp.proofs.laws.extensions_say_nothing.Goals as goal

pub returns : goal.returns
returns c = extensions_say_nothing
