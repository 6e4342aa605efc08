use Rattle.std.proofs.Common.{[], ◌∷◌, Ok, ◌∙◌, ap}
use Rattle.fax_gateway.specs.declared.leg.Leg.TheVariants as legs
use Rattle.fax_wires.specs.repeat.Peers.{Peers, bounded, change_on}
use Rattle.fax_line.specs.declared.asked.LineRequest.TheVariants as asked
use Rattle.fax_line.specs.Actions.{Asks}
use Rattle.fax_line.proofs.Goings.{goes_more, goes_peers, rung_as}
use Rattle.fax_line.specs.LegPeers.{cut_if}
use Rattle.fax_line.proofs.Heard.{freed_last, tells_more}
use Rattle.fax_line.proofs.line.Line.ring.Goals as goal

pub returns-in-Ok-clause-goes : goal.returns-in-Ok-clause-goes
returns-in-Ok-clause-goes g c =
    goes_more (Asks c.args.now (asked.Ring c.args.ringing) (rung_as (Ok c.in-Ok.number)) ∷ []) [] c.args.self.now c.accept_ring.new.self c.begin.new.self (c.in-Ok.ensures.goes c.args.ringing)
    (goes_peers c.accept_ring.new.self c.begin.new.self (tells_more c.accept_ring.new.self c.cut_if.new.self c.begin.new.self c.cut_if.ensures.tells c.begin.ensures.tells))

pub returns-in-Ok-clause-freed : goal.returns-in-Ok-clause-freed
returns-in-Ok-clause-freed g c =
    freed_last legs.Calling c.args.self.now c.accept_ring.new.self c.begin.new.self c.in-Ok.ensures.freed
    (tells_more c.accept_ring.new.self c.cut_if.new.self c.begin.new.self c.cut_if.ensures.tells c.begin.ensures.tells)

pub returns-in-Ok-clause-peers : goal.returns-in-Ok-clause-peers
returns-in-Ok-clause-peers g c =
    c.begin.ensures.peers
    ∙ ap (λ (p : Peers). change_on legs.Calling (bounded c.args.ringing.bounds) p) (c.cut_if.ensures.peers ∙ ap (λ (p : Peers). cut_if legs.Calling c.args.ringing.forgets_peer p) c.accept_ring.ensures.peers)

pub returns-in-Err-clause-goes : goal.returns-in-Err-clause-goes
returns-in-Err-clause-goes g c = c.in-Err.ensures.goes c.args.ringing
