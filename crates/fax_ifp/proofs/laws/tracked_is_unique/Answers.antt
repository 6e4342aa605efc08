use Rattle.fax_ifp.proofs.SlotLaws.{tracked_is_unique}
use Rattle.fax_ifp.proofs.laws.tracked_is_unique.Goals as goal

pub returns : goal.returns
returns c = tracked_is_unique
