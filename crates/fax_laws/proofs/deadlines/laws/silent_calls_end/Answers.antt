use Rattle.fax_laws.proofs.deadlines.SilentCalls.{silent_calls}
use Rattle.fax_laws.proofs.deadlines.laws.silent_calls_end.Goals as goal

pub returns : goal.returns
returns c = silent_calls c.no_call_hangs.ensures c.slots_go_on.ensures
