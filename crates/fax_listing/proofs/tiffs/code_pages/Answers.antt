use Rattle.std.proofs.Common.{◌≡◌, ◌∙◌, ◌&&◌, string_bytes, sym, arith}
use Rattle.fax_listing.proofs.PictureLemmas.{both, not_both}
use Rattle.fax_listing.proofs.TiffFileLemmas.{none_coded, one_page_coded}
use Rattle.fax_listing.proofs.tiffs.code_pages.Goals as goal
use Rattle.fax_listing.proofs.tiffs.code_pages.Goals.{then-are_all, else-are_all}

pub loop-page-preserved : goal.loop-page-preserved
loop-page-preserved c =
    let was = c.loop-page.are_all in
    let made = c.in_ok-is_coded.is_coded in
    let whole = c.if-are_all.are_all in
    let is : whole ≡ (was && made) = elim c.if-are_all.branch [ then-are_all w ↦ both whole was made w.if-are_all.true w.are_all-is | else-are_all w ↦ not_both whole was made w.if-are_all.false w.are_all-is ] in
    one_page_coded c.args.pages.now c.loop-page.page-index c.page-item.result c.loop-page.coded.items c.code_page.new.coded.items was made whole (string_bytes c.args.told.now) (string_bytes c.loop-page.told) (string_bytes c.code_page.new.told)
    (omega arith) (sym c.page-item.is) is c.loop-page.invariant c.in_ok-is_coded.ensures

pub loop-page-init : goal.loop-page-init
loop-page-init c = none_coded c.new-coded.result.items (string_bytes c.args.told.now) c.new-coded.ensures.items
