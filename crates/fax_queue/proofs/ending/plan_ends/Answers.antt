use Rattle.std.proofs.Common.{◌≡◌, ◌∙◌, ◌+◌, [], ◌∷◌, ◌++◌, List, Some, None, Vec, Global, get_or, length, take, slice_get, refl, sym, ap, subst, arith, ◌≤◌}
use Rattle.std.specs.Prelude.{slice_set}
use Rattle.std.proofs.lemmas.List.{get_or_default, take_all, take_more}
use Rattle.fax_line.specs.StoredRuns.{reports_of}
use Rattle.fax_line.specs.declared.settling.LineReport.{LineReport}
use Rattle.fax_queue.specs.declared.ending.PlannedEnd.{PlannedEnd}
use Rattle.fax_queue.specs.Queues.{QueueValue}
use Rattle.fax_queue.specs.Together.{Planned}
use Rattle.fax_queue.proofs.Queueing.{get_at}
use Rattle.fax_queue.proofs.Together.{is_fresh, no_report, none_there, planned_beyond, planned_more, planned_none}
use Rattle.fax_queue.proofs.ending.plan_ends.Goals as goal
use Rattle.fax_queue.proofs.ending.plan_ends.Goals.{then-one-queues, else-one-queues}

pub loop-one-init : goal.loop-one-init
loop-one-init c = planned_none c.args.queues.now (take 0 c.args.ended.now) c.new-plan.result.items refl c.new-plan.ensures.items

pub loop-one-preserved : goal.loop-one-preserved
loop-one-preserved c =
    let jobs = c.args.ended.now in
    let olds = c.args.queues.now in
    let queues = c.loop-one.queues in
    let plan = c.loop-one.plan.items in
    let i = c.loop-one.one-index in
    let one : LineReport = get_or jobs i no_report in
    let low = c.loop-one-test.true in
    let fresh : reports_of one.line (take i jobs) ≡ [] = is_fresh jobs i one c.requires low (get_or_default jobs i one no_report low) in
    let next : take (i + 1) jobs ≡ take i jobs ++ one ∷ [] = take_more jobs i no_report low in
    subst (λ (l : List LineReport). Planned l olds c.if-one-queues.queues c.if-one-queues.plan.items) (sym next) (elim c.if-one-queues.branch [
      | then-one-queues w ↦
          let q : QueueValue = get_or queues one.line w.index-queues-one.result in
          let at : slice_get queues one.line ≡ Some q = get_at queues one.line w.index-queues-one.result w.if-one-queues.true w.index-queues-one.is ∙ ap (λ (s : QueueValue). Some s) w.index-queues-one.is in
          subst (λ (l : List QueueValue). Planned (take i jobs ++ one ∷ []) olds l c.if-one-queues.plan.items) (sym w.queues-is)
          (subst (λ (v : Vec PlannedEnd Global). Planned (take i jobs ++ one ∷ []) olds (slice_set queues one.line w.plan_end.new.queue) v.items) (sym w.plan-is)
          (planned_more olds queues (take i jobs) plan one fresh c.loop-one.invariant q w.plan_end.new.queue w.plan_end.new.plan.items w.if-one-queues.true at w.plan_end.ensures))
      | else-one-queues w ↦
          let many : length queues ≡ length olds = c.loop-one.auto.queues in
          let far : length queues ≤ one.line = w.if-one-queues.false in
          subst (λ (l : List QueueValue). Planned (take i jobs ++ one ∷ []) olds l c.if-one-queues.plan.items) (sym w.queues-is)
          (subst (λ (v : Vec PlannedEnd Global). Planned (take i jobs ++ one ∷ []) olds queues v.items) (sym w.plan-is)
          (planned_beyond olds queues (take i jobs) plan one fresh c.loop-one.invariant (none_there olds one.line (omega (arith, far, many)))))
    ])

pub returns : goal.returns
returns c =
    subst (λ (l : List LineReport). Planned l c.args.queues.now c.loop-one.queues c.loop-one.plan.items) (take_all c.loop-one.one-index c.args.ended.now c.loop-one-test.false) c.loop-one.invariant
