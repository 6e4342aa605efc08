use Rattle.fax_undelivered.proofs.Ending.{puts_if}
use Rattle.fax_undelivered.proofs.paired_store.put_pages.Goals as goal

pub returns : goal.returns
returns g c = puts_if _ _ _ c.args.pages.now c.args.card.now c.keep.result c.is_ok.result c.args.second.now c.keep.new.self c.if-is_empty.ensures c.is_ok.ensures.value c.keep.ensures.kept c.keep.ensures.does c.keep.ensures.same
