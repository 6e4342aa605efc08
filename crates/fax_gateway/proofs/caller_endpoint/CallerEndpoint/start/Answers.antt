use Rattle.fax_gateway.specs.declared.caller_endpoint.CallerEndpoint.{CallerEndpoint}
use Rattle.fax_gateway.proofs.Serving.{leg_starts}
use Rattle.fax_gateway.proofs.caller_endpoint.CallerEndpoint.start.Goals as goal

pub returns-clause-started : goal.returns-clause-started
returns-clause-started g c setup writes old fresh r =
    let new : CallerEndpoint = record { caller = c.start.new.self; leg = c.args.leg } in
    leg_starts setup writes old c.args.self.now new c.args.job.now c.format.result c.page_count.result c.args.now c.format.ensures c.page_count.ensures c.start.ensures.started fresh r
