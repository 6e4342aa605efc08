use Rattle.std.proofs.Common.{◌+◌, ◌≤◌, ◌==◌, length, ap, refl, ◌∙◌, arith, length-append}
use Rattle.std.proofs.lemmas.Result.{err_from_is_err_and}
use Rattle.fax_tiff.specs.WrittenTiffs.{end_of_page, pages_from}
use Rattle.fax_tiff.proofs.WritingLemmas.{added_end, one_page_more, too_long}
use Rattle.fax_tiff.proofs.writing.push_pages.Goals as goal

pub loop-i-preserved : goal.loop-i-preserved
loop-i-preserved c = record {
  all = one_page_more c.args.pages.now c.loop-i.i c.args.total c.index-pages-i.result c.loop-i.octets.items c.push_page.new.octets.items (c.loop-i.i + 1 == length c.args.pages.now)
      (omega arith) c.index-pages-i.is refl c.in_ok-push_page.ensures.ok ∙ c.loop-i.invariant.all;
  short = λ _. omega (arith, added_end c.loop-i.octets.items c.push_page.new.octets.items _ _ _ _ c.index-pages-i.result c.in_ok-push_page.ensures.ok, c.in_ok-push_page.ensures.short);
}

pub returns-in_err-push_page-clause-long : goal.returns-in_err-push_page-clause-long
returns-in_err-push_page-clause-long c =
    let p = err_from_is_err_and c.from_residual.result c.from_residual.ensures.1 in
    λ e.
    let far : 4294967296 ≤ end_of_page (length c.loop-i.octets.items) c.index-pages-i.result = c.in_err-push_page.ensures.long (cc) in
    omega (
      arith,
      far,
      too_long c.args.pages.now c.loop-i.i c.args.total c.index-pages-i.result c.loop-i.octets.items (omega arith) c.index-pages-i.is,
      ap length c.loop-i.invariant.all,
      length-append c.args.octets.now.items (pages_from (length c.args.octets.now.items) 0 c.args.total c.args.pages.now),
    )
