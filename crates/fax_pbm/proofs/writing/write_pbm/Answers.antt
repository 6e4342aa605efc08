use Rattle.std.proofs.Common.{◌≡◌, ℕ, ◌*◌, All, List, ◌++◌, length, decimal, ◌∙◌, ap, ap₂, subst}
use Rattle.fax_runcodes.specs.Rows.{Elements}
use Rattle.fax_runcodes.specs.Widths.{elements_of}
use Rattle.fax_pbm.specs.Pictures.{IsRaster}
use Rattle.fax_pbm.proofs.PageLemmas.{head_at, page_of-written, rows_fill, written_parts}
use Rattle.fax_pbm.proofs.writing.write_pbm.Goals as goal

pub returns : goal.returns
returns g c =
    let page = c.args.page.now in
    let are = c.rows-rows.ensures.are_rows in
    let (raster, grown, fills) = c.in_ok-push_rows.ensures in
    let wide : c.from-width.result ≡ elements_of page.format.width = c.from-width.ensures ∙ c.elements.ensures ∙ ap (λ f. elements_of f.width) c.format.ensures in
    let high : c.len.result ≡ length page.rows = c.len.ensures ∙ ap length c.rows-rows.ensures.same in
    let of_rows = rows_fill page.format.width page.rows raster are (subst (λ (rows : List Elements). (size : ℕ) → All (λ (row : Elements). length row ≡ 8 * size) rows → IsRaster size rows raster) c.rows-rows.ensures.same fills) in
    page_of-written page c.push_rows.new.octets.items raster are of_rows
    (grown ∙ ap (λ (x : List ℕ). x ++ raster) (c.in_ok-octets.ensures ∙ ap₂ head_at wide high) ∙ written_parts (decimal (elements_of page.format.width)) (decimal (length page.rows)) raster)
