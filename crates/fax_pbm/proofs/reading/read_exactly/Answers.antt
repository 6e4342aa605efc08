use Rattle.std.proofs.Common.{◌≡◌, ℕ, ◌*◌, ◌/◌, Ok, sym, ◌∙◌, ap, subst, arith}
use Rattle.fax_runcodes.specs.Widths.{elements_of}
use Rattle.fax_pagestore.specs.PageRows.{AreRows}
use Rattle.fax_pbm.proofs.RowLemmas.{AreRows-rows_of, is_height-parts, raster_rows-cut, raster_rows-longer, raster_rows-whole}
use Rattle.fax_pbm.proofs.reading.read_exactly.Goals as goal

pub returns-then-raster-wanted-clause-fault : goal.returns-then-raster-wanted-clause-fault
returns-then-raster-wanted-clause-fault c =
    let size : c.from-size.result ≡ elements_of c.args.width / 8 = c.from-size.ensures ∙ ap (λ (n : ℕ). n / 8) c.elements.ensures in
    let wanted : c.args.height * c.from-size.result ≡ c.args.height * (elements_of c.args.width / 8) = ap (λ (n : ℕ). c.args.height * n) size in
    λ _. raster_rows-cut (elements_of c.args.width) c.args.height c.args.raster.now c.requires (omega (arith, wanted))

pub returns-then-raster-wanted-2-clause-fault : goal.returns-then-raster-wanted-2-clause-fault
returns-then-raster-wanted-2-clause-fault c =
    let size : c.from-size.result ≡ elements_of c.args.width / 8 = c.from-size.ensures ∙ ap (λ (n : ℕ). n / 8) c.elements.ensures in
    let wanted : c.args.height * c.from-size.result ≡ c.args.height * (elements_of c.args.width / 8) = ap (λ (n : ℕ). c.args.height * n) size in
    λ _. raster_rows-longer (elements_of c.args.width) c.args.height c.args.raster.now c.requires (omega (arith, wanted))

pub read_rows-requires : goal.read_rows-requires
read_rows-requires c =
    let size : c.from-size.result ≡ elements_of c.args.width / 8 = c.from-size.ensures ∙ ap (λ (n : ℕ). n / 8) c.elements.ensures in
    let wanted : c.args.height * c.from-size.result ≡ c.args.height * (elements_of c.args.width / 8) = ap (λ (n : ℕ). c.args.height * n) size in
    omega (arith, wanted)

pub returns-clause-ok : goal.returns-clause-ok
returns-clause-ok c =
    let size : c.from-size.result ≡ elements_of c.args.width / 8 = c.from-size.ensures ∙ ap (λ (n : ℕ). n / 8) c.elements.ensures in
    let wanted : c.args.height * c.from-size.result ≡ c.args.height * (elements_of c.args.width / 8) = ap (λ (n : ℕ). c.args.height * n) size in
    raster_rows-whole (elements_of c.args.width) c.args.height c.args.raster.now c.requires (omega (arith, wanted)) ∙ ap (λ rows. Ok rows) (sym c.in_ok-rows.ensures)

pub returns-clause-are_rows : goal.returns-clause-are_rows
returns-clause-are_rows c =
    let size : c.from-size.result ≡ elements_of c.args.width / 8 = c.from-size.ensures ∙ ap (λ (n : ℕ). n / 8) c.elements.ensures in
    let wanted : c.args.height * c.from-size.result ≡ c.args.height * (elements_of c.args.width / 8) = ap (λ (n : ℕ). c.args.height * n) size in
    let parts = is_height-parts c.args.height c.requires in
    subst (AreRows (elements_of c.args.width)) (sym c.in_ok-rows.ensures)
    (AreRows-rows_of c.args.width c.args.height c.args.raster.now parts.0 parts.1 (omega (arith, wanted)))
