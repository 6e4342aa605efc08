use Rattle.fax_gateway.proofs.AskedCalls.{gives_in_calls}
use Rattle.fax_gateway.proofs.laws.gives_in_placed_calls.Goals as goal

pub returns : goal.returns
returns c = gives_in_calls
