use Rattle.fax_switch.proofs.SwitchProofs.{offers_are_routed}
use Rattle.fax_switch.proofs.laws.offers_are_routed.Goals as goal

pub returns : goal.returns
returns c = offers_are_routed
