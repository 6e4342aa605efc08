use Rattle.std.proofs.Common.{List, inr, sym, subst}
use Rattle.fax_spool.specs.RecordOctets.{PageValue}
use Rattle.fax_queue.specs.Storing.{AreRecordsUnder}
use Rattle.fax_queue.specs.Queues.{lines_of}
use Rattle.fax_queue.specs.Tags.{AreTagged}
use Rattle.fax_queue.proofs.Tagging.{puts_tagged}
use Rattle.fax_queue.proofs.putting.put_pages.Goals as goal

pub returns-in-Ok-put_all-clause-puts : goal.returns-in-Ok-put_all-clause-puts
returns-in-Ok-put_all-clause-puts g c =
    let names = c.args.names.now in
    record {
      values = c.as_slice.result.now;
      are = subst (λ (l : List PageValue). AreRecordsUnder names.life (lines_of names.queues.now) c.args.pages.now names.numbers.now l) (sym c.as_slice.ensures.value) c.in-Ok.ensures.under;
      put = c.in-Ok-put_all.ensures.acknowledged;
    }

pub returns-in-Ok-put_all-clause-tagged : goal.returns-in-Ok-put_all-clause-tagged
returns-in-Ok-put_all-clause-tagged g c =
    let names = c.args.names.now in
    puts_tagged _ _ _ names.life (lines_of names.queues.now) c.args.pages.now names.numbers.now names.tags.now c.as_slice.result.now c.args.spool.now c.put_all.new.self
    (subst (λ (l : List PageValue). AreRecordsUnder names.life (lines_of names.queues.now) c.args.pages.now names.numbers.now l) (sym c.as_slice.ensures.value) c.in-Ok.ensures.under)
    (subst (λ (l : List PageValue). AreTagged names.tags.now c.args.pages.now l) (sym c.as_slice.ensures.value) c.in-Ok.ensures.tagged)
    c.in-Ok-put_all.ensures.acknowledged

pub returns-clause-failed : goal.returns-clause-failed
returns-clause-failed g c =
    let names = c.args.names.now in
    inr (record {
      values = c.as_slice.result.now;
      are = subst (λ (l : List PageValue). AreRecordsUnder names.life (lines_of names.queues.now) c.args.pages.now names.numbers.now l) (sym c.as_slice.ensures.value) c.in-Ok.ensures.under;
      does = c.in-Err-put_all.ensures.does;
    })
