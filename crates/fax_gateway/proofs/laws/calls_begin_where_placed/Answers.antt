use Rattle.fax_gateway.proofs.AskedCalls.{begin_where_placed}
use Rattle.fax_gateway.proofs.laws.calls_begin_where_placed.Goals as goal

pub returns : goal.returns
returns c = begin_where_placed
