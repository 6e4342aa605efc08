use Rattle.std.proofs.Common.{[], ◌∷◌, Ok, ◌∙◌, ap}
use Rattle.fax_gateway.specs.declared.leg.Leg.TheVariants as legs
use Rattle.fax_wires.specs.repeat.Peers.{Peers, change_on, cut_off}
use Rattle.fax_line.specs.declared.asked.LineRequest.TheVariants as asked
use Rattle.fax_line.specs.Actions.{Asks}
use Rattle.fax_line.proofs.Goings.{goes_more, goes_peers, placed_as}
use Rattle.fax_line.proofs.Heard.{freed_last}
use Rattle.fax_line.proofs.line.Line.not_connected.Goals as goal

pub returns-in-Ok-clause-goes : goal.returns-in-Ok-clause-goes
returns-in-Ok-clause-goes g c =
    goes_more (Asks c.args.now asked.NotConnected (placed_as (Ok tt)) ∷ []) [] c.args.self.now c.place.new.self c.cut.new.self (c.in-Ok.ensures.goes asked.NotConnected tt)
    (goes_peers c.place.new.self c.cut.new.self c.cut.ensures.tells)

pub returns-in-Ok-clause-freed : goal.returns-in-Ok-clause-freed
returns-in-Ok-clause-freed g c = freed_last legs.Called c.args.self.now c.place.new.self c.cut.new.self c.in-Ok.ensures.freed c.cut.ensures.tells

pub returns-in-Ok-clause-peers : goal.returns-in-Ok-clause-peers
returns-in-Ok-clause-peers g c = c.cut.ensures.peers ∙ ap (λ (p : Peers). change_on legs.Called cut_off p) c.place.ensures.peers

pub returns-in-Err-clause-goes : goal.returns-in-Err-clause-goes
returns-in-Err-clause-goes g c = c.in-Err.ensures.goes asked.NotConnected tt
