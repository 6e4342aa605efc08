use Rattle.std.proofs.Common.{ℕ, not, List, Ok, inl, inr, refl, sym, ◌∙◌, ap, subst}
use Rattle.fax_gateway.specs.declared.leg.Leg.{Leg}
use Rattle.fax_gateway.specs.Driving.{DriverValue, FailsToReceive, HasMade, ReceivesNothing}
use Rattle.fax_gateway.proofs.DrivingLemmas.{alike_by, alike_none, carries_datagram, carries_failure, carries_nothing, made_nothing, wire_by, wire_came}
use Rattle.fax_gateway.proofs.engine.Engine.receive.Goals as goal

pub returns-in-Ok-Some-clause-received : goal.returns-in-Ok-Some-clause-received
returns-in-Ok-Some-clause-received g c setup writes trace earlier reached made =
    let at : Leg = c.args.leg in
    let h = c.hand_on-is_accepted.ensures.handed setup writes trace reached in
    let k = c.receive.ensures in
    let octets : List ℕ = c.front.result.now in (
      h.0,
      h.1,
      record {
        happens = record {
          reached = h.4;
          wanting = (h.3, tt);
          carried = carries_datagram at c.receive.new.self octets c.in-Ok-Some.count h.0 _ _ c.receive.result (c.in-Ok-Some.is ∙ ap Ok c.in-Ok-Some.field-0-is) k.room c.front.ensures c.hand_on-is_accepted.result h.2 k.failures k.received k.sent;
        };
        made = c.note_datagram.ensures.noted earlier at octets h.0 h.2 made;
      },
      wire_came g.W.Wire.receives g.W.Wire.sends at c.args.now h.0 c.args.wire.now c.receive.new.wire h.1 k.makes,
    )

pub returns-in-Ok-None-clause-received : goal.returns-in-Ok-None-clause-received
returns-in-Ok-None-clause-received g c setup writes trace earlier reached made =
    let at : Leg = c.args.leg in
    let k = c.receive.ensures in (
      ReceivesNothing at,
      inl refl,
      record {
        happens = record {
          reached = reached;
          wanting = (tt, tt);
          carried = carries_nothing at c.receive.new.self _ _ c.receive.result (c.in-Ok-None.is ∙ ap Ok c.in-Ok-None.field-0-is) k.room k.failures k.received k.sent;
        };
        made = made_nothing earlier at _ (subst (λ (d : DriverValue). HasMade earlier d) (sym c.self.view_is) made);
      },
      wire_by g.W.Wire.receives g.W.Wire.sends (ReceivesNothing at) c.args.wire.now c.receive.new.wire k.makes,
    )

pub returns-in-Err-clause-received : goal.returns-in-Err-clause-received
returns-in-Err-clause-received g c setup writes trace earlier reached made =
    let at : Leg = c.args.leg in
    let k = c.receive.ensures in (
      FailsToReceive at,
      inr refl,
      record {
        happens = record {
          reached = reached;
          wanting = (tt, tt);
          carried = carries_failure at c.receive.new.self _ _ c.receive.result c.in-Err.field-0 c.in-Err.is k.room k.failures k.received k.sent;
        };
        made = c.note_failure.ensures.noted earlier at made;
      },
      wire_by g.W.Wire.receives g.W.Wire.sends (FailsToReceive at) c.args.wire.now c.receive.new.wire k.makes,
    )

pub returns-in-Ok-Some-clause-refusals : goal.returns-in-Ok-Some-clause-refusals
returns-in-Ok-Some-clause-refusals g c = alike_by (not c.hand_on-is_accepted.result) _ _ _ _ c.hand_on-is_accepted.ensures.refusals c.note_datagram.ensures.refused

pub returns-in-Ok-None-clause-refusals : goal.returns-in-Ok-None-clause-refusals
returns-in-Ok-None-clause-refusals g c = alike_none _ _ _ _ refl (ap (λ (d : DriverValue). d.events_refused) c.self.view_is)

pub returns-in-Err-clause-refusals : goal.returns-in-Err-clause-refusals
returns-in-Err-clause-refusals g c = alike_none _ _ _ _ refl c.note_failure.ensures.refused
