use Rattle.fax_laws.proofs.deadlines.HeardCalls.{heard_lately}
use Rattle.fax_laws.proofs.deadlines.laws.calls_are_heard_lately.Goals as goal

pub returns : goal.returns
returns c = heard_lately c.no_call_hangs.ensures
