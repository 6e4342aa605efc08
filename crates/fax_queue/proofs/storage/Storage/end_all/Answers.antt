use Rattle.std.proofs.Common.{◌≡◌, ◌∙◌, ◌++◌, List, true, false, length, drop, take, ap, sym, subst, arith}
use Rattle.fax_queue.specs.declared.ending.PlannedEnd.{PlannedEnd}
use Rattle.fax_queue.specs.Queues.{QueueValue, lines_of}
use Rattle.fax_queue.specs.Together.{EndsTogether, MayPutEnds, Planned, unsure_all}
use Rattle.fax_queue.proofs.Together.{not_together, put_together, tidy_together, written_back}
use Rattle.fax_queue.proofs.storage.Storage.end_all.Goals as goal

pub returns-clause-ends : goal.returns-clause-ends
returns-clause-ends g c =
    let seen = g.D.Disk.seen in
    let may_leave = g.D.Disk.may_leave in
    let is_usable = g.D.Disk.is_usable in
    let before = c.args.self.now.spool in
    let between = c.put_ends.new.spool in
    let jobs = c.args.ended.now in
    let olds = c.args.self.now.queues.items in
    let mids = c.plan_ends-plan.new.queues in
    let items = c.plan_ends-plan.result.items in
    let whole : c.args.self.now.queues.len ≡ length olds = omega (arith, c.as_mut_slice.ensures.len, ap length c.as_mut_slice.ensures.value) in
    let as_many : length mids ≡ length olds = omega (arith, c.plan_ends-plan.auto.queues, ap length c.as_mut_slice.ensures.value) in
    let back : take c.args.self.now.queues.len (mids ++ drop (length mids) olds) ≡ mids = written_back c.args.self.now.queues.len olds mids whole as_many in
    let planned : Planned jobs olds mids items = subst (λ (l : List QueueValue). Planned jobs l mids items) c.as_mut_slice.ensures.value c.plan_ends-plan.ensures in
    let put : MayPutEnds seen may_leave is_usable (lines_of mids) items true before between =
    subst (λ (p : List PlannedEnd). MayPutEnds seen may_leave is_usable (lines_of mids) p true before between) c.as_slice-plan.ensures.value
    (subst (λ (q : List QueueValue). MayPutEnds seen may_leave is_usable (lines_of q) c.as_slice-plan.result.now true before between) (c.as_slice.ensures.value ∙ back) c.in-Ok.ensures) in
    subst (λ (q : List QueueValue). (e : EndsTogether seen may_leave is_usable jobs olds q before c.change_files-self.new.spool) × (e.is_ok ≡ true)) (sym back)
    (put_together seen may_leave is_usable jobs items olds mids planned c.requires before between c.change_files-self.new.spool put c.change_files-self.ensures.told)

pub returns-clause-tidy : goal.returns-clause-tidy
returns-clause-tidy g c =
    let seen = g.D.Disk.seen in
    let may_leave = g.D.Disk.may_leave in
    let is_usable = g.D.Disk.is_usable in
    let before = c.args.self.now.spool in
    let between = c.put_ends.new.spool in
    let jobs = c.args.ended.now in
    let olds = c.args.self.now.queues.items in
    let mids = c.plan_ends-plan.new.queues in
    let items = c.plan_ends-plan.result.items in
    let whole : c.args.self.now.queues.len ≡ length olds = omega (arith, c.as_mut_slice.ensures.len, ap length c.as_mut_slice.ensures.value) in
    let as_many : length mids ≡ length olds = omega (arith, c.plan_ends-plan.auto.queues, ap length c.as_mut_slice.ensures.value) in
    let back : take c.args.self.now.queues.len (mids ++ drop (length mids) olds) ≡ mids = written_back c.args.self.now.queues.len olds mids whole as_many in
    let planned : Planned jobs olds mids items = subst (λ (l : List QueueValue). Planned jobs l mids items) c.as_mut_slice.ensures.value c.plan_ends-plan.ensures in
    let put : MayPutEnds seen may_leave is_usable (lines_of mids) items true before between =
    subst (λ (p : List PlannedEnd). MayPutEnds seen may_leave is_usable (lines_of mids) p true before between) c.as_slice-plan.ensures.value
    (subst (λ (q : List QueueValue). MayPutEnds seen may_leave is_usable (lines_of q) c.as_slice-plan.result.now true before between) (c.as_slice.ensures.value ∙ back) c.in-Ok.ensures) in
    tidy_together seen may_leave is_usable jobs items olds mids planned c.requires before between c.change_files-self.new.spool put c.change_files-self.ensures.tidy

pub returns-in_default-clause-ends : goal.returns-in_default-clause-ends
returns-in_default-clause-ends g c =
    let seen = g.D.Disk.seen in
    let may_leave = g.D.Disk.may_leave in
    let is_usable = g.D.Disk.is_usable in
    let before = c.args.self.now.spool in
    let after = c.put_ends.new.spool in
    let jobs = c.args.ended.now in
    let len = c.args.self.now.queues.len in
    let olds = c.args.self.now.queues.items in
    let mids = c.plan_ends-plan.new.queues in
    let news = c.mark_unsure.new.queues in
    let items = c.plan_ends-plan.result.items in
    let whole : len ≡ length olds = omega (arith, c.as_mut_slice.ensures.len, ap length c.as_mut_slice.ensures.value) in
    let as_many : length mids ≡ length olds = omega (arith, c.plan_ends-plan.auto.queues, ap length c.as_mut_slice.ensures.value) in
    let back : take len (mids ++ drop (length mids) olds) ≡ mids = written_back len olds mids whole as_many in
    let lent = c.as_mut_slice-in_default.ensures.value ∙ back in
    let still_many : length news ≡ length mids = omega (arith, c.mark_unsure.auto.queues, ap length lent) in
    let planned : Planned jobs olds mids items = subst (λ (l : List QueueValue). Planned jobs l mids items) c.as_mut_slice.ensures.value c.plan_ends-plan.ensures in
    let put : MayPutEnds seen may_leave is_usable (lines_of mids) items false before after =
    subst (λ (p : List PlannedEnd). MayPutEnds seen may_leave is_usable (lines_of mids) p false before after) c.as_slice-plan.ensures.value
    (subst (λ (q : List QueueValue). MayPutEnds seen may_leave is_usable (lines_of q) c.as_slice-plan.result.now false before after) (c.as_slice.ensures.value ∙ back) c.in_default.ensures) in
    let marked : news ≡ unsure_all items mids =
    c.mark_unsure.ensures ∙ ap (λ (p : List PlannedEnd). unsure_all p c.as_mut_slice-in_default.result.now) c.as_slice-plan.ensures.value ∙ ap (λ (q : List QueueValue). unsure_all items q) lent in
    let all : take len (news ++ drop (length news) (take len (mids ++ drop (length mids) olds))) ≡ news =
    ap (λ (q : List QueueValue). take len (news ++ drop (length news) q)) back ∙ written_back len mids news (whole ∙ sym as_many) still_many in
    subst (λ (q : List QueueValue). (e : EndsTogether seen may_leave is_usable jobs olds q before after) × (e.is_ok ≡ false)) (sym (all ∙ marked))
    (not_together seen may_leave is_usable jobs items olds mids planned c.requires before after put)
