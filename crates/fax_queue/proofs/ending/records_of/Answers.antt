use Rattle.std.proofs.Common.{◌≡◌, ◌+◌, [], ◌∷◌, ◌++◌, List, get_or, take, sym, subst}
use Rattle.std.proofs.lemmas.List.{take_all, take_more}
use Rattle.fax_spool.specs.RecordOctets.{EndedValue}
use Rattle.fax_queue.specs.declared.ending.PlannedEnd.{PlannedEnd}
use Rattle.fax_queue.specs.Queues.{lines_of}
use Rattle.fax_queue.specs.Together.{AreEndsOf}
use Rattle.fax_queue.proofs.Together.{ends_push, no_end}
use Rattle.fax_queue.proofs.ending.records_of.Goals as goal

pub loop-one-init : goal.loop-one-init
loop-one-init c = subst (λ (l : List EndedValue). AreEndsOf (lines_of c.args.queues.now) [] l) (sym c.in_ok-records.ensures.items) tt

pub loop-one-preserved : goal.loop-one-preserved
loop-one-preserved c =
    let names = lines_of c.args.queues.now in
    let plan = c.args.plan.now in
    let i = c.loop-one.one-index in
    let one : PlannedEnd = get_or plan i no_end in
    let next : take (i + 1) plan ≡ take i plan ++ one ∷ [] = take_more plan i no_end c.loop-one-test.true in
    subst (λ (l : List PlannedEnd). AreEndsOf names l c.push.new.self.items) (sym next)
    (subst (λ (l : List EndedValue). AreEndsOf names (take i plan ++ one ∷ []) l) (sym c.in_ok-push.ensures.items)
    (ends_push names (take i plan) c.loop-one.records.items one c.record_of.result c.loop-one.invariant ((c.in-Some.line.now, c.in-Some.ensures, c.record_of.ensures), tt)))

pub returns : goal.returns
returns c = subst (λ (l : List PlannedEnd). AreEndsOf (lines_of c.args.queues.now) l c.loop-one.records.items) (take_all c.loop-one.one-index c.args.plan.now c.loop-one-test.false) c.loop-one.invariant
