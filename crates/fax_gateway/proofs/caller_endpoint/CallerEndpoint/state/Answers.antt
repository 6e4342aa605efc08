use Rattle.std.proofs.Common.{◌∙◌}
use Rattle.fax_gateway.proofs.Watched.{called_stands}
use Rattle.fax_gateway.proofs.caller_endpoint.CallerEndpoint.state.Goals as goal

pub returns : goal.returns
returns c setup writes leg r = c.state.ensures ∙ called_stands setup writes leg c.args.self.now r
