use Rattle.std.proofs.Common.{[], inr, sym}
use Rattle.fax_line.specs.Operations.{waits_of}
use Rattle.fax_line.proofs.Running.{went_settled}
use Rattle.fax_line.proofs.Recorded.{flags_alike}
use Rattle.fax_line.proofs.Telling.{told_so}
use Rattle.fax_line.proofs.run.settle.Goals as goal

pub returns-clause-sees : goal.returns-clause-sees
returns-clause-sees g c = inr (c.before_put.new.self, c.after_put.new.self, c.before_put.ensures.sees, c.after_put.ensures.sees, c.stored.ensures.sees)

pub returns-clause-settles : goal.returns-clause-settles
returns-clause-settles g c =
    let olds = c.args.lines.now.lines in
    let left = c.settle-end.new.self.lines in
    record {
      end = c.settle-end.result;
      left = left;
      is_settled = record {
        pages = c.settle-end.ensures.pages;
        begun = c.before_put.new.store;
        is_same = c.before_put.ensures.same;
        kept = c.settle-end.new.store;
        put = c.settle-end.ensures.put;
        settled = c.settle-end.ensures.settled;
        told = told_so g.row.K.Denot g.K.RunStore.notes g.K.RunStore.ends (waits_of left) (waits_of olds) c.settle-end.result.pages.items left c.settle-end.new.store c.tell_store.new.store
            (λ i. sym (flags_alike olds left c.settle-end.ensures.waits i)) c.tell_store.ensures;
      };
      freed = c.free.ensures.frees;
      went = went_settled [] olds left c.free.new.self.lines c.settle-end.ensures.went c.free.ensures.went;
      saw_stored = (c.after_put.new.self, c.stored.ensures.sees_stored);
    }
