use Rattle.std.proofs.Common.{ap}
use Rattle.fax_call.specs.Reached as call
use Rattle.fax_gateway.specs.declared.caller_endpoint.CallerEndpoint.{CallerEndpoint}
use Rattle.fax_gateway.proofs.Serving.{called_endpoint_keeps}
use Rattle.fax_gateway.proofs.caller_endpoint.CallerEndpoint.reserve.Goals as goal

pub returns-clause-reached : goal.returns-clause-reached
returns-clause-reached c setup writes leg r =
    let new : CallerEndpoint = record { caller = c.reserve.new.self; leg = c.reserve-2.new.self } in
    called_endpoint_keeps setup writes leg c.args.self.now new c.reserve.ensures.reached (ap (λ (k : call.Rep). k.procedure.format) c.reserve.ensures.same) (c.reserve-2.ensures.reached setup) r
