-- A page that was written is read.
use Rattle.std.proofs.Common.{◌≡◌, ℕ, ◌*◌, ◌/◌, ◌^◌, ◌<◌, ◌≤◌, Bool, All, List, [], ◌∷◌, ◌++◌, Result, Ok, length, codes, decimal, refl, sym, ◌∙◌, ap, arith, append_assoc}
use Rattle.std.proofs.lemmas.List.Elements.{All-weaker}
use Rattle.fax_runcodes.specs.declared.Width.{Width}
use Rattle.fax_runcodes.specs.declared.Width.TheVariants.{W1728, W2048, W2432}
use Rattle.fax_runcodes.specs.Rows.{Elements}
use Rattle.fax_runcodes.specs.Widths.{elements_of}
use Rattle.fax_pagestore.specs.PageRows.{AreRows}
use Rattle.fax_pagestore.specs.Pages.{PageValue}
use Rattle.fax_pbm.specs.declared.fault.PbmFault.{PbmFault}
use Rattle.fax_pbm.specs.Pictures.{Head, ◌>>=◌, IsRaster, page_of, raster_rows, width_of}
use Rattle.fax_pbm.proofs.HeadLemmas.{head_of-written}
use Rattle.fax_pbm.proofs.RowLemmas.{is_height-from, raster_rows-whole, row_size}

-- the head of a picture with no comment
abbrev pub head_at : ℕ → ℕ → List ℕ
head_at width height = codes "P4\n" ++ (decimal width ++ 32 ∷ []) ++ (decimal height ++ 10 ∷ [])

-- the head and the raster, part by part
pub written_parts : (width height raster : List ℕ) → (codes "P4\n" ++ (width ++ 32 ∷ []) ++ (height ++ 10 ∷ [])) ++ raster ≡ 80 ∷ 52 ∷ 10 ∷ (width ++ 32 ∷ (height ++ 10 ∷ raster))
written_parts width height raster = simp append_assoc

width_of-elements : (width : Width) → width_of (elements_of width) ≡ Ok width
width_of-elements W1728 = refl
width_of-elements W2048 = refl
width_of-elements W2432 = refl

elements_small : (width : Width) → elements_of width < 2 ^ 32
elements_small W1728 = omega arith
elements_small W2048 = omega arith
elements_small W2432 = omega arith

-- the rows of a page, in octets of so many
pub rows_fill : (width : Width) (rows : List Elements) (raster : List ℕ) → AreRows (elements_of width) rows
    → ((size : ℕ) → All (λ (row : Elements). length row ≡ 8 * size) rows → IsRaster size rows raster) → IsRaster (elements_of width / 8) rows raster
rows_fill width rows raster are fills =
    fills (elements_of width / 8) (All-weaker (λ (row : Elements). length row ≡ elements_of width) (λ (row : Elements). length row ≡ 8 * (elements_of width / 8))
    (λ row wide. wide ∙ sym (row_size width).0) rows are.each)

abbrev made_page : Bool → Width → List Elements → Result PageValue PbmFault
made_page fine width rows = Ok (record { format = record { width = width; fine = fine }; rows = rows })

-- the picture of a page means the page
pub page_of-written : (page : PageValue) (octets raster : List ℕ) → AreRows (elements_of page.format.width) page.rows
    → IsRaster (elements_of page.format.width / 8) page.rows raster
    → octets ≡ 80 ∷ 52 ∷ 10 ∷ (decimal (elements_of page.format.width) ++ 32 ∷ (decimal (length page.rows) ++ 10 ∷ raster)) → page_of page.format.fine octets ≡ Ok page
unfolding page_of
page_of-written page octets raster are of_rows is =
    let width : Width = page.format.width in
    let wide : ℕ = elements_of width in
    let high : ℕ = length page.rows in
    let few : high < 2 ^ 32 = (let f : high ≤ 65535 = are.few in omega arith) in
    let fine = page.format.fine in
    let rest : Head → Result PageValue PbmFault = λ head. width_of head.width >>= (λ w. raster_rows (elements_of w) head.height head.raster >>= made_page fine w) in
    ap (page_of fine) is
    ∙ ap (λ (h : Result Head PbmFault). h >>= rest) (head_of-written wide high raster (elements_small width) few)
    ∙ ap (λ (w : Result Width PbmFault). w >>= (λ w. raster_rows (elements_of w) high raster >>= made_page fine w)) (width_of-elements width)
    ∙ ap (λ (r : Result (List Elements) PbmFault). r >>= made_page fine width)
    (raster_rows-whole wide high raster (is_height-from high are.some are.few) of_rows.length_is ∙ ap (λ (rows : List Elements). Ok rows) of_rows.rows_are)
