use Rattle.fax_gateway.specs.declared.caller_endpoint.CallerEndpoint.{CallerEndpoint}
use Rattle.fax_gateway.proofs.Serving.{leg_ticks_on}
use Rattle.fax_gateway.proofs.caller_endpoint.CallerEndpoint.tick.Goals as goal

pub returns-clause-ticked : goal.returns-clause-ticked
returns-clause-ticked g c setup writes l writing same r =
    let new : CallerEndpoint = record { caller = c.tick.new.self; leg = c.send_if.new.self } in
    leg_ticks_on setup writes l c.args.now c.args.job.now c.args.self.now new c.in_ok-packet.packet c.send_if.result same (λ heard core k. c.in_ok-packet.ensures.ticked writes heard core writing k) (c.send_if.ensures setup) r
