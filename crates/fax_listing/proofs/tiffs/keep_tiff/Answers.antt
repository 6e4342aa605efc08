use Rattle.std.proofs.Common.{◌≡◌, ◌&&◌, List, string_bytes, subst, sym}
use Rattle.fax_tiff.specs.Strips.{CodedPage}
use Rattle.fax_tiff.specs.TiffLaws.{AreCodedPages}
use Rattle.fax_listing.proofs.PictureLemmas.{both, not_both}
use Rattle.fax_listing.proofs.TiffFileLemmas.{tiff_kept}
use Rattle.fax_listing.proofs.tiffs.keep_tiff.Goals as goal
use Rattle.fax_listing.proofs.tiffs.keep_tiff.Goals.{then-are_all, else-are_all}

pub returns-clause-kept : goal.returns-clause-kept
returns-clause-kept g c =
    let whole = c.if-are_all.result in
    let are_all = c.in_ok-coded.are_all in
    let fits = c.in_ok-fits.fits in
    let is : whole ≡ (are_all && fits) = elim c.if-are_all.branch [ then-are_all w ↦ both whole are_all fits w.if-are_all.true (cc) | else-are_all w ↦ not_both whole are_all fits w.if-are_all.false (cc) ] in
    tiff_kept c.args.name.now c.args.pages.now c.in_ok-coded.coded.items are_all fits whole (string_bytes c.args.told.now) (string_bytes c.code_pages.new.told) (string_bytes c.make_tiff.new.told) _ _
    c.in_ok-coded.ensures (λ shown are. c.in_ok-fits.ensures.made shown (subst (λ (l : List CodedPage). AreCodedPages shown l) (sym c.as_slice.ensures.value) are)) c.in_ok-fits.ensures.told is
