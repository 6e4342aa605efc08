use Rattle.std.proofs.Common.{sym, subst}
use Rattle.fax_udptl.specs.Slots.{newest_slots}
use Rattle.fax_gateway.specs.Reached.{CallingValue, IsCalling, answering_of, arrived_on}
use Rattle.fax_gateway.proofs.answerer_endpoint.AnswererEndpoint.next_due.Goals as goal

pub returns : goal.returns
returns g c setup leg r =
    let s = subst (λ (k : CallingValue). IsCalling setup leg k) (sym c.self.view_is) r in
    c.next_due.ensures (newest_slots (arrived_on leg)) (answering_of setup leg) s.core
