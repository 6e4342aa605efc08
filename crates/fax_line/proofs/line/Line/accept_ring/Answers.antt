use Rattle.std.proofs.Common.{[], ◌∷◌, Ok, Err, subst, sym}
use Rattle.fax_gateway.specs.Reached.{GatewayValue}
use Rattle.fax_wires.specs.repeat.Policies.{due_of}
use Rattle.fax_wires.specs.holding.Holding.{as_told, due_on}
use Rattle.fax_line.specs.declared.asked.LineRequest.TheVariants as asked
use Rattle.fax_line.specs.Actions.{Asks, Goes, LineValue}
use Rattle.fax_line.proofs.Goings.{goes_refused, goes_ring, line_of, rung_as}
use Rattle.fax_line.proofs.line.Line.accept_ring.Goals as goal

pub returns-in-Ok-clause-goes : goal.returns-in-Ok-clause-goes
returns-in-Ok-clause-goes g c = λ ringing.
    let new : LineValue = line_of c.ring.new.self c.self.inside.engine (as_told c.cease.new.self) (due_of due_on c.cease.new.self) c.cease.new.self c.cease.new.self.peers c.self.inside.turned in
    subst (λ (l : LineValue). Goes (Asks c.args.now (asked.Ring ringing) (rung_as (Ok c.in-Ok.number)) ∷ []) l new) c.self.view_is
    (goes_ring c.args.now c.in-Ok.number ringing c.self.inside.gateway c.ring.new.self c.self.inside.engine (as_told c.self.inside.wire) (as_told c.cease.new.self)
    (due_of due_on c.self.inside.wire) (due_of due_on c.cease.new.self) c.self.inside.wire c.cease.new.self c.self.inside.wire.peers c.cease.new.self.peers c.self.inside.turned c.cease.ensures.told c.in-Ok.ensures.rung c.in-Ok.ensures.refusals)

pub returns-in-Err-clause-goes : goal.returns-in-Err-clause-goes
returns-in-Err-clause-goes g c = λ ringing.
    let new : GatewayValue → LineValue = λ x. line_of x c.self.inside.engine (as_told c.self.inside.wire) (due_of due_on c.self.inside.wire) c.self.inside.wire c.self.inside.wire.peers c.self.inside.turned in
    subst (λ (l : LineValue). Goes (Asks c.args.now (asked.Ring ringing) (rung_as (Err c.in-Err.fault)) ∷ []) l (new c.ring.new.self)) c.self.view_is
    (subst (λ (x : GatewayValue). Goes (Asks c.args.now (asked.Ring ringing) (rung_as (Err c.in-Err.fault)) ∷ []) (new c.self.inside.gateway) (new x)) (sym c.in-Err.ensures.err) (goes_refused c.args.now ringing (new c.self.inside.gateway) c.in-Err.fault c.in-Err.ensures.busy c.in-Err.ensures.no_number))
