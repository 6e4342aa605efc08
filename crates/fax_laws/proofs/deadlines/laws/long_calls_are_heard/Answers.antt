use Rattle.fax_laws.proofs.deadlines.HeardCalls.{long_are_heard}
use Rattle.fax_laws.proofs.deadlines.laws.long_calls_are_heard.Goals as goal

pub returns : goal.returns
returns c = long_are_heard c.no_call_hangs.ensures c.slots_go_on.ensures
