use Rattle.std.proofs.Common.{refl}
use Rattle.fax_queue.specs.Queues.{lines_of}
use Rattle.fax_queue.proofs.Refusing.{refuse_through}
use Rattle.fax_queue.proofs.Records.{keeps_on, keeps_put}
use Rattle.fax_queue.proofs.Queueing.{agrees_on, err_so, names_on, ok_so, put_through}
use Rattle.fax_queue.proofs.Numbering.{numbered_through}
use Rattle.fax_queue.proofs.Tagging.{tagged_through}
use Rattle.fax_queue.proofs.storage.StoragePageStorePageToStore.store_all.Goals as goal

pub returns-clause-kept : goal.returns-clause-kept
returns-clause-kept g c =
    keeps_on _ _ _ c.put_pages-answer.result c.args.self.now.spool c.args.self.now.spool c.put_pages-answer.new.spool c.add_all.new.self.spool c.args.pages.now refl c.add_all.ensures.spool
    (keeps_put _ _ _ c.put_pages-answer.result c.args.self.now.life (lines_of c.as_slice-2.result.now) c.args.pages.now c.as_slice.result.now c.args.self.now.spool c.put_pages-answer.new.spool c.put_pages-answer.ensures.puts)

pub returns-clause-put : goal.returns-clause-put
returns-clause-put g c =
    let begun = c.numbers_of-numbers in
    put_through _ _ _ c.put_pages-answer.result c.args.self.now.life c.args.pages.now begun.result.items c.as_slice.result.now c.as_slice-4.result.now c.is_ok.result
    c.args.self.now.queues.items c.as_slice-2.result.now c.args.self.now.queues.items c.add_all.new.self.queues.items
    c.args.self.now.spool c.args.self.now.spool c.put_pages-answer.new.spool c.add_all.new.self.spool
    c.as_slice.ensures.value c.as_slice-4.ensures.value c.as_slice-2.ensures.value refl refl c.add_all.ensures.spool
    (ok_so c.put_pages-answer.result c.is_ok.result c.is_ok.ensures.value) c.put_pages-answer.ensures.puts c.add_all.ensures.queues

pub returns-clause-tagged : goal.returns-clause-tagged
returns-clause-tagged g c =
    tagged_through _ _ _ c.put_pages-answer.result c.args.pages.now c.args.self.now.tags.items c.as_slice-3.result.now c.args.self.now.spool c.args.self.now.spool c.put_pages-answer.new.spool c.add_all.new.self.spool
    c.as_slice-3.ensures.value refl c.add_all.ensures.spool c.put_pages-answer.ensures.tagged

pub returns-clause-numbered : goal.returns-clause-numbered
returns-clause-numbered g c =
    numbered_through _ _ _ c.put_pages-answer.result c.args.self.now.life (lines_of c.as_slice-2.result.now) c.args.pages.now c.numbers_of-numbers.result.items c.as_slice.result.now c.args.self.now.queues.items
    c.args.self.now.spool c.put_pages-answer.new.spool c.add_all.new.self.spool c.as_slice.ensures.value c.add_all.ensures.spool c.numbers_of-numbers.ensures c.put_pages-answer.ensures.puts

pub returns-clause-agree : goal.returns-clause-agree
returns-clause-agree g c = agrees_on _ _ _ c.put_pages-answer.result c.args.pages.now c.args.self.now.queues.items c.add_all.new.self.queues.items c.args.self.now.spool c.add_all.new.self.spool (returns-clause-put g c)

pub returns-clause-names : goal.returns-clause-names
returns-clause-names g c =
    names_on c.put_pages-answer.result c.args.self.now.life c.is_ok.result c.args.pages.now c.as_slice-4.result.now c.args.self.now.queues.items c.args.self.now.queues.items c.add_all.new.self.queues.items
    refl (err_so c.put_pages-answer.result c.is_ok.result c.is_ok.ensures.value) c.add_all.ensures.queues

pub returns-clause-refused : goal.returns-clause-refused
returns-clause-refused g c =
    let begun = c.numbers_of-numbers in
    refuse_through _ _ _ c.put_pages-answer.result c.args.self.now.life c.args.pages.now begun.result.items c.as_slice.result.now c.as_slice-4.result.now c.is_ok.result
    c.args.self.now.queues.items c.as_slice-2.result.now c.args.self.now.queues.items c.add_all.new.self.queues.items
    c.args.self.now.spool c.args.self.now.spool c.put_pages-answer.new.spool c.add_all.new.self.spool
    c.as_slice.ensures.value c.as_slice-4.ensures.value c.as_slice-2.ensures.value refl refl c.add_all.ensures.spool
    (err_so c.put_pages-answer.result c.is_ok.result c.is_ok.ensures.value) c.put_pages-answer.ensures.failed c.add_all.ensures.queues
