use Rattle.fax_ifp.proofs.SlotLaws.{pieces_go_on}
use Rattle.fax_ifp.proofs.laws.pieces_go_on.Goals as goal

pub returns : goal.returns
returns c = pieces_go_on
