use Rattle.std.proofs.Common.{Option, refl, subst}
use Rattle.fax_jobs.specs.Jobs.{JobValue}
use Rattle.fax_gateway.specs.CalledLegs.{begun_leg, core_left}
use Rattle.fax_gateway.specs.Reached.{Begins}
use Rattle.fax_gateway.proofs.caller_endpoint.CallerEndpoint.begin.Goals as goal

pub returns-in-Ok-clause-begun : goal.returns-in-Ok-clause-begun
returns-in-Ok-clause-begun g c setup writes old writing fresh r =
    subst (λ (o : Option JobValue). Begins setup writes old o c.args.now c.in-Ok.datagram c.args.self.now c.tick.new.self) c.in-Some.ensures
    (c.in-Ok.ensures.ticked setup writes (begun_leg c.in-Some.job.now (core_left setup writes old) c.args.now) writing refl (c.start.ensures.started setup writes old fresh r))
