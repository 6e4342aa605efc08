use Rattle.std.proofs.Common.{◌≡◌, MatchOption, Option, false, refl, sym, ap, subst, arith}
use Rattle.std.specs.Prelude.{slice_set}
use Rattle.fax_queue.specs.Queues.{QueueValue}
use Rattle.fax_queue.proofs.Queueing.{get_at, set_at}
use Rattle.fax_queue.proofs.Refusing.{ends_unknown}
use Rattle.fax_queue.proofs.storage.Storage.leave.Goals as goal

pub returns-clause-left : goal.returns-clause-left
returns-clause-left g c = λ pages low.
    let olds = c.args.self.now.queues.items in
    let old = c.index_mut.result.now in
    let new = c.mark_unsure.new.self in
    record {
      old = old;
      new = new;
      was = get_at olds c.args.i old (omega (arith, low)) c.index_mut.ensures.value;
      is = set_at olds c.args.i new (omega (arith, low));
      are = refl;
      ends = ends_unknown _ _ _ pages old new c.args.self.now.spool (ap (λ (s : QueueValue). s.line) c.mark_unsure.ensures) (ap (λ (s : QueueValue). s.is_whole) c.mark_unsure.ensures);
    }

pub returns-clause-unsure : goal.returns-clause-unsure
returns-clause-unsure g c =
    let olds = c.args.self.now.queues.items in
    let old = c.index_mut.result.now in
    let new = c.mark_unsure.new.self in
    subst (λ (o : Option QueueValue). MatchOption o (slice_set olds c.args.i new ≡ olds) (λ queue. slice_set olds c.args.i new ≡ slice_set olds c.args.i (record queue { is_whole = false })))
    (sym (get_at olds c.args.i old (omega (arith, c.if-i-len.false, c.len.ensures)) c.index_mut.ensures.value))
    (ap (λ (q : QueueValue). slice_set olds c.args.i q) c.mark_unsure.ensures)
