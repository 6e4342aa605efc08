use Rattle.std.proofs.Common.{◌≡◌, ◌∙◌, ◌+◌, ◌∷◌, List, Some, drop, get_or, slice_get, refl, sym, ap}
use Rattle.std.proofs.lemmas.List.{drop_all, drop_more}
use Rattle.fax_queue.specs.declared.ending.PlannedEnd.{PlannedEnd}
use Rattle.fax_queue.specs.Queues.{QueueValue}
use Rattle.fax_queue.specs.Together.{unsure_all, unsure_at}
use Rattle.fax_queue.proofs.Queueing.{get_at}
use Rattle.fax_queue.proofs.Together.{no_end, unsure_beyond, unsure_set}
use Rattle.fax_queue.proofs.ending.mark_unsure.Goals as goal
use Rattle.fax_queue.proofs.ending.mark_unsure.Goals.{then-one-queues, else-one-queues}

pub loop-one-init : goal.loop-one-init
loop-one-init c = refl

pub loop-one-preserved : goal.loop-one-preserved
loop-one-preserved c =
    let plan = c.args.plan.now in
    let queues = c.loop-one.queues in
    let i = c.loop-one.one-index in
    let one : PlannedEnd = get_or plan i no_end in
    let marked : c.if-one-queues.queues ≡ unsure_at one.line queues = elim c.if-one-queues.branch [
      | then-one-queues w ↦
          let q : QueueValue = get_or queues one.line w.index-queues-one.result in
          let at : slice_get queues one.line ≡ Some q = get_at queues one.line w.index-queues-one.result w.if-one-queues.true w.index-queues-one.is ∙ ap (λ (s : QueueValue). Some s) w.index-queues-one.is in
          w.queues-is ∙ unsure_set queues one.line q w.mark_unsure.new.self at w.mark_unsure.ensures
      | else-one-queues w ↦ w.queues-is ∙ sym (unsure_beyond queues one.line w.if-one-queues.false)
    ] in
    ap (λ (l : List QueueValue). unsure_all (drop (i + 1) plan) l) marked
    ∙ sym (ap (λ (l : List PlannedEnd). unsure_all l queues) (drop_more plan i no_end c.loop-one-test.true)) ∙ c.loop-one.invariant

pub returns : goal.returns
returns c = sym (ap (λ (l : List PlannedEnd). unsure_all l c.loop-one.queues) (drop_all c.loop-one.one-index c.args.plan.now c.loop-one-test.false)) ∙ c.loop-one.invariant
