use Rattle.fax_switch.proofs.SwitchProofs.{answered_calls_are_rung}
use Rattle.fax_switch.proofs.laws.answered_calls_are_rung.Goals as goal

pub returns : goal.returns
returns c = answered_calls_are_rung
