use Rattle.std.proofs.Common.{refl, sym, ap, subst}
use Rattle.fax_gateway.specs.declared.leg.Leg.TheVariants as leg_shown
use Rattle.fax_wires.specs.repeat.Peers.{peers_of}
use Rattle.fax_wires.specs.holding.Holding.{HoldingValue, Releases, octets_of}
use Rattle.fax_wires.proofs.holding.Held.{nothing_released}
use Rattle.fax_wires.proofs.holding.holding.HoldingWire.release.Goals as goal

pub returns-in-None-clause-released : goal.returns-in-None-clause-released
returns-in-None-clause-released g c =
    let old : HoldingValue = record { held = octets_of c.self.inside.held; is_silenced = c.self.inside.is_silenced; failures = c.self.inside.failures; wire = g.W.Wire.known c.self.inside.wire; clock = g.W.TimedWire.clock c.self.inside.wire; calling_due = g.W.TimedWire.due leg_shown.Calling c.self.inside.wire; called_due = g.W.TimedWire.due leg_shown.Called c.self.inside.wire; peers = peers_of g.W.LegWire.peer_at c.self.inside.wire } in
    let new : HoldingValue = record { held = octets_of c.take.new.self; is_silenced = c.self.inside.is_silenced; failures = c.self.inside.failures; wire = g.W.Wire.known c.self.inside.wire; clock = g.W.TimedWire.clock c.self.inside.wire; calling_due = g.W.TimedWire.due leg_shown.Calling c.self.inside.wire; called_due = g.W.TimedWire.due leg_shown.Called c.self.inside.wire; peers = peers_of g.W.LegWire.peer_at c.self.inside.wire } in
    subst (λ (was : HoldingValue). Releases was new) c.self.view_is
    (nothing_released c.self.inside.held old new (sym c.in-None.ensures.value) refl (ap octets_of c.in-None.ensures.after) refl refl refl)
