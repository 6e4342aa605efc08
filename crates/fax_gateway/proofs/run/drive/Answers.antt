use Rattle.std.proofs.Common.{◌≡◌, ◌+◌, ◌<◌, ◌↔◌, Bool, IsTrue, subst, List, [], ◌∷◌, ◌++◌, length, refl, sym, ◌∙◌, arith}
use Rattle.fax_gateway.specs.declared.driven.Driven.{Driven}
use Rattle.fax_gateway.specs.Driving.{Entry, RiseAlike, events, failed_in_a_row, log_of, most_failed, receipts}
use Rattle.fax_gateway.proofs.DrivingLemmas.{alike_more, alike_none, byte_is, carries_none, failures_told, has_failed, ring_made, round_more, tells_stopped, tells_whole}
use Rattle.fax_gateway.proofs.Turning.{goes, stops}
use Rattle.fax_gateway.proofs.run.drive.Goals as goal

pub returns-then-not-turned-clause-driven : goal.returns-then-not-turned-clause-driven
returns-then-not-turned-clause-driven g c setup writes trace writing reached =
    let before = c.loop-turn.invariant.ran setup writes trace writing reached in
    let rounds : List (List Entry) = before.0 in
    let log : List Entry = log_of rounds in
    let ring = c.ring_if-is_refused.ensures.rung setup writes (events log ++ trace) before.5.reached in
    let rung = ring_made setup writes c.contains.result c.moment-now.result ring.0 log (events log ++ trace) _ (g.W.Wire.known c.loop-turn.wire) _ ring.1 ring.4 ring.3 before.6 in
    let turn = c.turn-turned.ensures.turned setup writes (events ring.0 ++ (events log ++ trace)) (ring.0 ++ log) writing ring.3 rung in
    let more = round_more setup writes c.args.start c.loop-turn.turn-counter c.moment-now.result c.args.rings.now c.contains.result rounds ring.0 turn.0 trace _ _ _ _ _ _ _ _ _ _
    before.1 before.2 before.3 before.5 before.6 before.4 c.moment-now.ensures c.contains.ensures.value ring.1 (ring.2 ∙ sym (byte_is _) ∙ sym c.from-rings_refused.ensures) ring.4 ring.3 turn.1 turn.2 turn.3 in
    let all : List (List Entry) = (turn.0 ++ ring.0) ∷ rounds in
    let many : length rounds ≡ c.loop-turn.turn-counter = before.2 in (
      all,
      more.are,
      more.happens,
      tells_stopped c.args.turns c.args.start c.args.rings.now all c.turn-turned.new.self (c.loop-turn.turn-counter + 1) _ c.told.result c.told.ensures (omega arith) more.are more.made more.refused_is
          (has_failed (failed_in_a_row (receipts (log_of all)))
          (subst (λ (b : Bool). IsTrue b ↔ (failed_in_a_row (receipts (log_of all)) < most_failed)) (stops _ c.if-not-turned.true) (c.turn-turned.ensures.goes_on (log_of all) more.made))) (omega arith) (omega arith),
    )

pub returns-then-not-turned-clause-failures : goal.returns-then-not-turned-clause-failures
returns-then-not-turned-clause-failures g c setup writes trace writing reached low =
    let told = returns-then-not-turned-clause-driven g c setup writes trace writing reached in
    failures_told c.args.turns told.0 c.told.result (g.W.Wire.known c.args.wire.now) (g.W.Wire.known c.turn-turned.new.wire) told.2.carried told.3 low

pub loop-turn-init : goal.loop-turn-init
loop-turn-init g c = record {
  few = omega arith;
  ran = λ setup writes trace writing reached. ([], tt, refl, omega arith, refl, record { reached = reached; wanting = tt; carried = carries_none (g.W.Wire.known c.args.wire.now) }, c.new-engine.ensures);
  alike = alike_none _ _ _ _ refl c.new-engine.ensures.events_refused;
}

pub loop-turn-preserved : goal.loop-turn-preserved
loop-turn-preserved g c = record {
  few = let b = c.from-rings_refused.ensures in let k = byte_is c.ring_if-is_refused.result in grind (arith);
  ran = λ setup writes trace writing reached.
      let before = c.loop-turn.invariant.ran setup writes trace writing reached in
      let rounds : List (List Entry) = before.0 in
      let log : List Entry = log_of rounds in
      let ring = c.ring_if-is_refused.ensures.rung setup writes (events log ++ trace) before.5.reached in
      let rung = ring_made setup writes c.contains.result c.moment-now.result ring.0 log (events log ++ trace) _ (g.W.Wire.known c.loop-turn.wire) _ ring.1 ring.4 ring.3 before.6 in
      let turn = c.turn-turned.ensures.turned setup writes (events ring.0 ++ (events log ++ trace)) (ring.0 ++ log) writing ring.3 rung in
      let more = round_more setup writes c.args.start c.loop-turn.turn-counter c.moment-now.result c.args.rings.now c.contains.result rounds ring.0 turn.0 trace _ _ _ _ _ _ _ _ _ _
      before.1 before.2 before.3 before.5 before.6 before.4 c.moment-now.ensures c.contains.ensures.value ring.1 (ring.2 ∙ sym (byte_is _) ∙ sym c.from-rings_refused.ensures) ring.4 ring.3 turn.1 turn.2 turn.3 in
      let all : List (List Entry) = (turn.0 ++ ring.0) ∷ rounds in
      let many : length rounds ≡ c.loop-turn.turn-counter = before.2 in
      (all, more.are, omega arith, (c.turn-turned.ensures.goes_on (log_of all) more.made).0 (goes _ c.if-not-turned.false), more.refused_is, more.happens, more.made);
  alike = alike_more _ _ _ _ _ _ (alike_more _ _ _ _ _ _ c.loop-turn.invariant.alike (alike_none _ _ _ _ c.ring_if-is_refused.ensures.refusals refl)) c.turn-turned.ensures.refusals;
}

pub returns-clause-driven : goal.returns-clause-driven
returns-clause-driven g c setup writes trace writing reached =
    let before = c.loop-turn.invariant.ran setup writes trace writing reached in
    let rounds : List (List Entry) = before.0 in
    let many : length rounds ≡ c.loop-turn.turn-counter = before.2 in (
      rounds,
      before.1,
      before.5,
      tells_whole c.args.turns c.args.start c.args.rings.now rounds c.loop-turn.engine _ c.told-2.result c.told-2.ensures (omega arith) before.1 before.6 before.4 before.3 (omega arith),
    )

pub returns-clause-failures : goal.returns-clause-failures
returns-clause-failures g c setup writes trace writing reached low =
    let told = returns-clause-driven g c setup writes trace writing reached in
    failures_told c.args.turns told.0 c.told-2.result (g.W.Wire.known c.args.wire.now) (g.W.Wire.known c.loop-turn.wire) told.2.carried told.3 low

pub returns-then-not-turned-clause-refusals : goal.returns-then-not-turned-clause-refusals
returns-then-not-turned-clause-refusals g c =
    subst (λ (d : Driven). RiseAlike c.args.gateway.now.refusals c.turn-turned.new.gateway.refusals 0 d.events_refused) (sym c.told.ensures)
    (alike_more _ _ _ _ _ _ (alike_more _ _ _ _ _ _ c.loop-turn.invariant.alike (alike_none _ _ _ _ c.ring_if-is_refused.ensures.refusals refl)) c.turn-turned.ensures.refusals)

pub returns-clause-refusals : goal.returns-clause-refusals
returns-clause-refusals g c = subst (λ (d : Driven). RiseAlike c.args.gateway.now.refusals c.loop-turn.gateway.refusals 0 d.events_refused) (sym c.told-2.ensures) c.loop-turn.invariant.alike
