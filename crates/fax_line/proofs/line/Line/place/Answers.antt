use Rattle.std.proofs.Common.{[], ◌∷◌, Ok, Err, subst, sym}
use Rattle.fax_gateway.specs.Reached.{GatewayValue}
use Rattle.fax_wires.specs.repeat.Policies.{due_of}
use Rattle.fax_wires.specs.holding.Holding.{as_told, due_on}
use Rattle.fax_line.specs.Actions.{Asks, Goes, LineValue}
use Rattle.fax_line.proofs.Goings.{goes_placed, goes_unplaced, line_of, placed_as}
use Rattle.fax_line.proofs.line.Line.place.Goals as goal

pub returns-in-Ok-clause-goes : goal.returns-in-Ok-clause-goes
returns-in-Ok-clause-goes g c = λ what asks.
    let new : LineValue = line_of c.place.new.gateway c.self.inside.engine (as_told c.cease.new.self) (due_of due_on c.cease.new.self) c.cease.new.self c.cease.new.self.peers c.self.inside.turned in
    subst (λ (l : LineValue). Goes (Asks c.args.now what (placed_as (Ok tt)) ∷ []) l new) c.self.view_is
    (goes_placed c.args.now c.args.connected what c.self.inside.gateway c.place.new.gateway c.self.inside.engine (as_told c.self.inside.wire) (as_told c.cease.new.self)
    (due_of due_on c.self.inside.wire) (due_of due_on c.cease.new.self) c.self.inside.wire c.cease.new.self c.self.inside.wire.peers c.cease.new.self.peers c.self.inside.turned asks c.cease.ensures.told c.in-Ok.ensures.placed c.in-Ok.ensures.refusals)

pub returns-in-Err-clause-goes : goal.returns-in-Err-clause-goes
returns-in-Err-clause-goes g c = λ what asks.
    let new : GatewayValue → LineValue = λ x. line_of x c.self.inside.engine (as_told c.self.inside.wire) (due_of due_on c.self.inside.wire) c.self.inside.wire c.self.inside.wire.peers c.self.inside.turned in
    subst (λ (l : LineValue). Goes (Asks c.args.now what (placed_as (Err c.in-Err.fault)) ∷ []) l (new c.place.new.gateway)) c.self.view_is
    (subst (λ (x : GatewayValue). Goes (Asks c.args.now what (placed_as (Err c.in-Err.fault)) ∷ []) (new c.self.inside.gateway) (new x)) (sym c.in-Err.ensures.err)
    (goes_unplaced c.args.now c.args.connected what (new c.self.inside.gateway) c.in-Err.fault asks c.in-Err.ensures.not_asked))
