use Rattle.fax_switch.proofs.CallEnds.{calls_end}
use Rattle.fax_switch.proofs.laws.calls_end.Goals as goal

pub returns : goal.returns
returns c = calls_end
