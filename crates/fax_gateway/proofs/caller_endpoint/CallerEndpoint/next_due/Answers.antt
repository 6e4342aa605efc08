use Rattle.std.proofs.Common.{◌∙◌}
use Rattle.fax_udptl.specs.Slots.{newest_slots}
use Rattle.fax_gateway.specs.CalledLegs.{core_of}
use Rattle.fax_gateway.proofs.Resting.{due_over, due_on}
use Rattle.fax_gateway.proofs.caller_endpoint.CallerEndpoint.next_due.Goals as goal

pub returns-in-Some : goal.returns-in-Some
returns-in-Some c setup writes l r = due_over setup writes l c.args.self.now _ r c.in-Some.ensures

pub returns-in-None : goal.returns-in-None
returns-in-None c setup writes l r =
    c.next_due.ensures writes l.job (newest_slots l.arrived) (core_of writes l) r.core ∙ due_on setup writes l c.args.self.now r c.in-None.ensures
