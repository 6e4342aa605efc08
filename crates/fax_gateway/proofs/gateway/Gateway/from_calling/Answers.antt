use Rattle.fax_gateway.proofs.Steps.{heard_alike}
use Rattle.fax_gateway.proofs.gateway.Gateway.from_calling.Goals as goal

pub returns-clause-heard : goal.returns-clause-heard
returns-clause-heard g c = heard_alike _ c.from_calling_watched.result c.args.octets.now c.args.now c.args.self.now c.from_calling_watched.new.self c.from_calling_watched.ensures.heard
