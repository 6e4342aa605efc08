use Rattle.fax_ifp.proofs.SlotLaws.{lost_slots_are_gaps}
use Rattle.fax_ifp.proofs.laws.lost_slots_are_gaps.Goals as goal

pub returns : goal.returns
returns c = lost_slots_are_gaps
