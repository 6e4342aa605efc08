use Rattle.std.proofs.Common.{refl}
use Rattle.fax_gateway.specs.declared.caller_endpoint.CallerEndpoint.{CallerEndpoint}
use Rattle.fax_gateway.proofs.Serving.{leg_fails}
use Rattle.fax_gateway.proofs.caller_endpoint.CallerEndpoint.fail_to_place.Goals as goal

pub returns-clause-failed : goal.returns-clause-failed
returns-clause-failed g c setup writes old fresh r =
    let new : CallerEndpoint = record { caller = c.fail_to_place.new.self; leg = c.args.leg } in
    leg_fails setup writes old c.args.self.now new c.args.job.now c.format.result c.page_count.result c.args.now c.format.ensures c.page_count.ensures c.fail_to_place.ensures.not_placed fresh r
