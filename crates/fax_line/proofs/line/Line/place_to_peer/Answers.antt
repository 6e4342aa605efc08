use Rattle.std.proofs.Common.{[], ◌∷◌, Ok, Err, true, ◌∙◌, ap, subst, sym}
use Rattle.fax_gateway.specs.declared.leg.Leg.TheVariants as legs
use Rattle.fax_wires.specs.repeat.Peers.{Peers, bounded, change_on, cut_off, no_bounds}
use Rattle.fax_line.specs.declared.asked.LineRequest.TheVariants as asked
use Rattle.fax_line.specs.Actions.{Asks, LineValue, TellsWire}
use Rattle.fax_line.proofs.Goings.{goes_more, goes_peers, placed_as}
use Rattle.fax_line.proofs.Heard.{freed_last}
use Rattle.fax_line.proofs.line.Line.place_to_peer.Goals as goal

pub returns-in-Ok-clause-goes : goal.returns-in-Ok-clause-goes
returns-in-Ok-clause-goes g c = λ connecting.
    goes_more (Asks c.args.now (asked.Connect connecting) (placed_as (Ok tt)) ∷ []) [] c.args.self.now c.place.new.self c.begin.new.self (c.in-Ok.ensures.goes (asked.Connect connecting) tt)
    (goes_peers c.place.new.self c.begin.new.self c.begin.ensures.tells)

pub returns-in-Ok-clause-freed : goal.returns-in-Ok-clause-freed
returns-in-Ok-clause-freed g c = freed_last legs.Called c.args.self.now c.place.new.self c.begin.new.self c.in-Ok.ensures.freed c.begin.ensures.tells

pub returns-in-Ok-clause-ok : goal.returns-in-Ok-clause-ok
returns-in-Ok-clause-ok g c = c.begin.ensures.peers ∙ ap (λ (p : Peers). change_on legs.Called (bounded no_bounds) p) c.place.ensures.peers

pub returns-in-Err-clause-goes : goal.returns-in-Err-clause-goes
returns-in-Err-clause-goes g c = λ connecting.
    goes_more (Asks c.args.now (asked.Connect connecting) (placed_as (Err c.in-Err.fault)) ∷ []) [] c.args.self.now c.place.new.self c.cut.new.self (c.in-Err.ensures.goes (asked.Connect connecting) tt)
    (goes_peers c.place.new.self c.cut.new.self c.cut.ensures.tells)

pub returns-in-Err-clause-cut : goal.returns-in-Err-clause-cut
returns-in-Err-clause-cut g c = c.cut.ensures.peers ∙ ap (λ (p : Peers). change_on legs.Called cut_off p) c.place.ensures.peers

pub returns-in-Err-clause-err : goal.returns-in-Err-clause-err
returns-in-Err-clause-err g c = subst (λ (l : LineValue). TellsWire l c.cut.new.self) c.in-Err.ensures.err c.cut.ensures.tells
