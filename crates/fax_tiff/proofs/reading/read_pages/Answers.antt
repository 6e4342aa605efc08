use Rattle.std.proofs.Common.{◌+◌, List, subst, sym, arith, take}
use Rattle.std.proofs.lemmas.Result.{err_from_is_err_and}
use Rattle.fax_pagestore.specs.Pages.{PageValue}
use Rattle.fax_tiff.specs.ReadTiffs.{MeanPages}
use Rattle.fax_tiff.proofs.MeaningLemmas.{fails_in, means_more}
use Rattle.fax_tiff.proofs.reading.read_pages.Goals as goal

pub loop-text-preserved : goal.loop-text-preserved
loop-text-preserved c =
    subst (λ (pages : List PageValue). MeanPages (take (c.loop-text.text-index + 1) c.args.texts.now) pages) (sym c.in_ok-push.ensures.items)
    (means_more c.args.texts.now c.loop-text.text-index c.text-item.result c.loop-text.pages.items c.in_ok-page.page (omega arith) c.text-item.is c.loop-text.invariant c.in_ok-page.ensures.ok)

pub returns-in_err-page-clause-fault : goal.returns-in_err-page-clause-fault
returns-in_err-page-clause-fault c =
    let p = err_from_is_err_and c.from_residual.result c.from_residual.ensures.1 in
    rw (p.1, p.2)
    (λ apart. fails_in c.args.texts.now c.loop-text.text-index c.text-item.result c.loop-text.pages.items _ (omega arith) c.text-item.is c.loop-text.invariant (c.in_err-page.ensures.fault apart))
