use Rattle.fax_switch.proofs.SwitchProofs.{legs_have_one_call}
use Rattle.fax_switch.proofs.laws.legs_have_one_call.Goals as goal

pub returns : goal.returns
returns c = legs_have_one_call
