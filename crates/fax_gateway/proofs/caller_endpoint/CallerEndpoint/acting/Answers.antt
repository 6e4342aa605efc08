use Rattle.fax_gateway.proofs.Watched.{called_acts}
use Rattle.fax_gateway.proofs.caller_endpoint.CallerEndpoint.acting.Goals as goal

pub returns : goal.returns
returns c setup writes leg r = called_acts setup writes leg c.args.self.now c.args.now c.acting.result r c.acting.ensures
