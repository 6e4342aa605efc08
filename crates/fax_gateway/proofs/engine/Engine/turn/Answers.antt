use Rattle.std.proofs.Common.{◌++◌, refl}
use Rattle.fax_gateway.specs.Driving.{events}
use Rattle.fax_gateway.proofs.DrivingLemmas.{alike_more, steps_more, wire_more}
use Rattle.fax_gateway.proofs.Turning.{turn_tells}
use Rattle.fax_gateway.proofs.engine.Engine.turn.Goals as goal

pub returns-clause-turned : goal.returns-clause-turned
returns-clause-turned g c setup writes trace earlier writing reached made =
    let a = c.serve.ensures.served setup writes trace earlier reached made in
    let b = c.serve-2.ensures.served setup writes (events a.0 ++ trace) (a.0 ++ earlier) a.2.happens.reached a.2.made in
    let both = steps_more setup writes a.0 b.0 trace earlier _ _ _ _ _ _ _ a.2 b.2 in
    let t = c.tick-told.ensures.ticked setup writes (events (b.0 ++ a.0) ++ trace) ((b.0 ++ a.0) ++ earlier) writing both.happens.reached both.made in
    let all = steps_more setup writes (b.0 ++ a.0) t.0 trace earlier _ _ _ _ _ _ _ both t.2 in (
      t.0 ++ (b.0 ++ a.0),
      record { calling = a.0; called = b.0; tick = t.0; log_is = refl; on_calling = a.1; on_called = b.1; ticks = t.1 },
      all.happens,
      all.made,
      turn_tells setup c.args.now a.0 b.0 t.0 trace _ _ _ _ a.1 b.1 t.3,
      wire_more g.W.Wire.receives g.W.Wire.sends (b.0 ++ a.0) t.0 c.args.wire.now c.serve-2.new.wire c.tick-told.new.wire
          (wire_more g.W.Wire.receives g.W.Wire.sends a.0 b.0 c.args.wire.now c.serve.new.wire c.serve-2.new.wire a.3 b.3) t.4,
    )

pub returns-clause-refusals : goal.returns-clause-refusals
returns-clause-refusals g c = alike_more _ _ _ _ _ _ (alike_more _ _ _ _ _ _ c.serve.ensures.refusals c.serve-2.ensures.refusals) c.tick-told.ensures.refusals
