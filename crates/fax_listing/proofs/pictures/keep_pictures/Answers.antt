use Rattle.std.proofs.Common.{◌≡◌, ◌∙◌, ◌&&◌, string_bytes, sym, arith}
use Rattle.fax_listing.proofs.PictureLemmas.{both, not_both, one_page_more}
use Rattle.fax_listing.proofs.pictures.keep_pictures.Goals as goal
use Rattle.fax_listing.proofs.pictures.keep_pictures.Goals.{then-is_whole, else-is_whole}

pub loop-page-preserved : goal.loop-page-preserved
loop-page-preserved g c =
    let was = c.loop-page.is_whole in
    let made = c.in_ok-is_made.is_made in
    let whole = c.if-is_whole.is_whole in
    let is : whole ≡ (was && made) = elim c.if-is_whole.branch [ then-is_whole w ↦ both whole was made w.if-is_whole.true w.is_whole-is | else-is_whole w ↦ not_both whole was made w.if-is_whole.false w.is_whole-is ] in
    record {
      kept =
          one_page_more c.args.prefix.now c.args.pages.now c.loop-page.page-index c.page-item.result was made whole (string_bytes c.args.told.now) (string_bytes c.loop-page.told) (string_bytes c.keep_picture.new.told) _ _ _
          (omega arith) (sym c.page-item.is) is c.loop-page.invariant.kept c.in_ok-is_made.ensures.kept;
      unfailed = c.in_ok-is_made.ensures.failed ∙ c.loop-page.invariant.unfailed;
    }
