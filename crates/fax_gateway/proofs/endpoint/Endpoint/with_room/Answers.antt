use Rattle.std.proofs.Common.{[]}
use Rattle.fax_gateway.proofs.endpoint.Endpoint.with_room.Goals as goal

pub returns-clause-fresh : goal.returns-clause-fresh
returns-clause-fresh c = λ setup set. c.reserve.ensures.reached setup [] [] (c.in_ok-leg.ensures setup set)
