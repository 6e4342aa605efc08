use Rattle.std.proofs.Common.{refl, sym, subst}
use Rattle.fax_udptl.specs.Slots.{slots, newest_slots}
use Rattle.fax_gateway.specs.Reached.{CallingValue, IsCalling, answering_of, arrived_on}
use Rattle.fax_gateway.proofs.answerer_endpoint.AnswererEndpoint.ring.Goals as goal

pub returns-clause-rung : goal.returns-clause-rung
unfolding newest_slots slots
returns-clause-rung g c setup leg set r =
    let s = subst (λ (k : CallingValue). IsCalling setup leg k) (sym c.self.view_is) r in
    record { number = refl; core = c.ring.ensures.rung (newest_slots (arrived_on leg)) (answering_of setup leg) s.core; on_leg = c.in_ok-self-inside.ensures setup set }
