use Rattle.std.proofs.Common.{◌≡◌, ◌∙◌, ◌∷◌, ap, is_some, List, Option, subst, ℕ}
use Rattle.fax_wires.specs.repeat.Policies.{IsToldAs}
use Rattle.fax_wires.specs.holding.Holding.{as_told}
use Rattle.fax_wires.specs.holding.Storing.{HasDone, HoldsAfter, LegAction, Turn}
use Rattle.fax_line.specs.Actions.{LineValue}
use Rattle.fax_line.proofs.Slots.{ends_by}
use Rattle.fax_line.proofs.line.Line.end_turn.Goals as goal

pub returns-clause-ends : goal.returns-clause-ends
returns-clause-ends g c =
    ends_by c.args.is_stored c.is_some.result c.args.self.now _
    (c.is_some.ensures ∙ ap (λ (l : LineValue). is_some l.turned.kept) c.self.view_is)
    (ap (λ (l : LineValue). l.gateway) c.self.view_is) (ap (λ (l : LineValue). l.driver) c.self.view_is) (subst (λ (l : LineValue). IsToldAs l.wire (as_told c.end_turn.new.wire)) c.self.view_is c.end_turn.ensures.told)
    (subst (λ (l : LineValue). c.end_turn.new.wire.peers ≡ l.peers) c.self.view_is c.end_turn.ensures.peers) (ap (λ (l : LineValue). l.turned) c.self.view_is)
    (subst (λ (l : LineValue). (actions : List LegAction) (given : Option (List ℕ)) → HoldsAfter actions given l.holding → HasDone (Turn given c.is_some.result c.args.is_stored ∷ actions) c.end_turn.new.wire) c.self.view_is c.end_turn.ensures.settled)
