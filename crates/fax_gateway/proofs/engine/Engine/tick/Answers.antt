use Rattle.std.proofs.Common.{◌+◌, max, min, true, [], ◌∷◌, ◌++◌, ◌∙◌, ap, inl, inr, refl, sym, subst}
use Rattle.fax_gateway.specs.CallingLegs.{calling_leg}
use Rattle.fax_gateway.specs.Events.{Tick, clock}
use Rattle.fax_gateway.specs.Reached.{given_shown}
use Rattle.fax_gateway.specs.Turns.{IsRefusedAt, TellTicks}
use Rattle.fax_gateway.specs.declared.leg.Leg.TheVariants as legs
use Rattle.fax_gateway.specs.Wires.{greatest_count}
use Rattle.fax_gateway.specs.Driving.{Accepts, DriverValue, Entry, HasMade, RefusesTick, Steps, events}
use Rattle.fax_gateway.proofs.DrivingLemmas.{alike_by, alike_none, carries_unseen, made_refused_tick, made_unseen, steps_more, steps_send, wire_by, wire_more}
use Rattle.fax_gateway.proofs.Turning.{due_where_refused, refused_tells, tick_tells}
use Rattle.fax_gateway.proofs.engine.Engine.tick.Goals as goal

pub returns-in-Ok-clause-ticked : goal.returns-in-Ok-clause-ticked
returns-in-Ok-clause-ticked g c setup writes trace earlier writing reached made =
    let e : Entry = Accepts (Tick c.args.now (given_shown c.in-Ok.given)) in
    let step : Steps setup writes (e ∷ []) trace earlier c.tick.new.self (g.W.Wire.known c.args.wire.now) (g.W.Wire.known c.args.wire.now) c.args.self.now = record {
      happens = record {
        reached = c.in-Ok.ensures.ticked setup writes trace writing reached;
        wanting = (tt, tt);
        carried = carries_unseen e _ refl refl refl refl;
      };
      made = made_unseen earlier e _ refl refl refl refl made;
    } in
    let first = c.send.ensures.sent (e ∷ earlier) step.made in
    let steps = steps_more setup writes (e ∷ []) first.0 trace earlier _ _ _ _ _ _ _ step
    (steps_send setup writes legs.Calling c.in-Ok.given.calling first.0 (events (e ∷ []) ++ trace) (e ∷ earlier) _ _ _ _ first.1 first.2 first.3 step.happens.reached) in
    let second = c.send-in-Ok.ensures.sent ((first.0 ++ e ∷ []) ++ earlier) steps.made in (
      second.0 ++ (first.0 ++ e ∷ []),
      inl (given_shown c.in-Ok.given, first.0, second.0, first.1, second.1, refl),
      steps_more setup writes (first.0 ++ e ∷ []) second.0 trace earlier _ _ _ _ _ _ _ steps
          (steps_send setup writes legs.Called c.in-Ok.given.called second.0 (events (first.0 ++ e ∷ []) ++ trace) ((first.0 ++ e ∷ []) ++ earlier) _ _ _ _ second.1 second.2 second.3 steps.happens.reached),
      tick_tells setup trace c.args.now (given_shown c.in-Ok.given) first.0 second.0 c.told.result.report c.told.result.kept c.told.result.refused c.told.result.gave_up first.1 second.1
          (ap (λ t. t.report) c.told.ensures)
          (ap (λ t. t.kept) c.told.ensures ∙ c.in-Ok.ensures.confirmed setup writes trace reached)
          (subst (IsRefusedAt (calling_leg setup trace) (max c.args.now (clock trace))) (sym (ap (λ t. t.refused) c.told.ensures)) (c.in-Ok.ensures.refused setup writes trace reached))
          (ap (λ t. t.gave_up) c.told.ensures ∙ c.in-Ok.ensures.given_up setup writes trace reached),
      wire_more g.W.Wire.receives g.W.Wire.sends (first.0 ++ e ∷ []) second.0 c.args.wire.now c.send.new.wire c.send-in-Ok.new.wire
          (wire_more g.W.Wire.receives g.W.Wire.sends (e ∷ []) first.0 c.args.wire.now c.args.wire.now c.send.new.wire (wire_by g.W.Wire.receives g.W.Wire.sends e c.args.wire.now c.args.wire.now refl) first.4) second.4,
    )

pub returns-in-Err-clause-ticked : goal.returns-in-Err-clause-ticked
returns-in-Err-clause-ticked g c setup writes trace earlier writing reached made = (
  RefusesTick c.args.now ∷ [],
  inr refl,
  record {
    happens = record {
      reached = c.in-Err.ensures.kept setup writes trace reached;
      wanting = (due_where_refused _ _ _ _ refl (c.in-Err.ensures.rests setup writes trace reached), tt);
      carried = carries_unseen (RefusesTick c.args.now) _ refl refl refl refl;
    };
    made = made_refused_tick c.args.now earlier _ _ c.saturating_add-self-inside.ensures (subst (λ (d : DriverValue). HasMade earlier d) (sym c.self.view_is) made);
  },
  subst (λ t. TellTicks setup trace trace t.report t.kept t.refused t.gave_up) (sym c.nothing.ensures) (refused_tells setup trace),
  wire_by g.W.Wire.receives g.W.Wire.sends (RefusesTick c.args.now) c.args.wire.now c.args.wire.now refl,
)

pub returns-in-Ok-clause-refusals : goal.returns-in-Ok-clause-refusals
returns-in-Ok-clause-refusals g c = alike_none _ _ _ _ c.in-Ok.ensures.refusals (c.send-in-Ok.ensures.refused ∙ c.send.ensures.refused)

pub returns-in-Err-clause-refusals : goal.returns-in-Err-clause-refusals
returns-in-Err-clause-refusals g c =
    alike_by true _ _ _ _ c.in-Err.ensures.refusals (c.saturating_add-self-inside.ensures ∙ ap (λ (d : DriverValue). min (d.events_refused + 1) greatest_count) c.self.view_is)
