use Rattle.std.proofs.Common.{◌≡◌, List, [], ◌∷◌, ◌++◌, length, inl, inr, refl, arith}
use Rattle.fax_gateway.specs.Driving.{Comes, Entry, events}
use Rattle.std.proofs.lemmas.List.Elements.{All-cons}
use Rattle.fax_gateway.proofs.DrivingLemmas.{alike_more, alike_none, steps_more, steps_none, wire_more}
use Rattle.fax_gateway.proofs.engine.Engine.serve.Goals as goal

pub loop-init : goal.loop-init
loop-init g c = record {
  went = λ setup writes trace earlier reached made. ([], λ k d low. absurd (omega arith), refl, steps_none setup writes trace earlier _ _ _ reached made, refl);
  alike = alike_none _ _ _ _ refl refl;
}

pub loop-preserved : goal.loop-preserved
loop-preserved g c = record {
  went = λ setup writes trace earlier reached made.
      let before = c.loop.invariant.went setup writes trace earlier reached made in
      let came : List Entry = before.0 in
      let steps = before.3 in
      let more = c.if-not-receive.ensures.received setup writes (events came ++ trace) (came ++ earlier) steps.happens.reached steps.made in (
        more.0 ∷ came,
        All-cons (Comes c.args.leg c.args.now) more.0 came more.1 before.1,
        let many : length came ≡ c.loop.counter = before.2 in omega arith,
        steps_more setup writes came (more.0 ∷ []) trace earlier _ _ _ _ _ _ _ steps more.2,
        wire_more g.W.Wire.receives g.W.Wire.sends came (more.0 ∷ []) c.args.wire.now c.loop.wire _ before.4 more.3,
      );
  alike = alike_more _ _ _ _ _ _ c.loop.invariant.alike c.if-not-receive.ensures.refusals;
}

pub returns-then-not-receive-clause-served : goal.returns-then-not-receive-clause-served
returns-then-not-receive-clause-served g c setup writes trace earlier reached made =
    let before = c.loop.invariant.went setup writes trace earlier reached made in
    let came : List Entry = before.0 in
    let many : length came ≡ c.loop.counter = before.2 in
    let steps = before.3 in
    let last = c.if-not-receive.ensures.received setup writes (events came ++ trace) (came ++ earlier) steps.happens.reached steps.made in (
      last.0 ∷ came,
      inr (came, last.0, refl, before.1, omega arith, last.1),
      steps_more setup writes came (last.0 ∷ []) trace earlier _ _ _ _ _ _ _ steps last.2,
      wire_more g.W.Wire.receives g.W.Wire.sends came (last.0 ∷ []) c.args.wire.now c.loop.wire _ before.4 last.3,
    )

pub returns-clause-served : goal.returns-clause-served
returns-clause-served g c setup writes trace earlier reached made =
    let before = c.loop.invariant.went setup writes trace earlier reached made in
    let came : List Entry = before.0 in
    let many : length came ≡ c.loop.counter = before.2 in
    (came, inl (before.1, omega arith), before.3, before.4)

pub returns-then-not-receive-clause-refusals : goal.returns-then-not-receive-clause-refusals
returns-then-not-receive-clause-refusals g c = alike_more _ _ _ _ _ _ c.loop.invariant.alike c.if-not-receive.ensures.refusals

pub returns-clause-refusals : goal.returns-clause-refusals
returns-clause-refusals g c = c.loop.invariant.alike
