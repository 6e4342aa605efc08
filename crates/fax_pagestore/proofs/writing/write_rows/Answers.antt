use Rattle.std.proofs.Common.{◌≡◌, ◌<◌, ◌+◌, List, ◌++◌, length, drop, Bool, None, Some, slice_get, ◌∙◌, ap, sym, subst, is_none, arith}
use Rattle.std.proofs.lemmas.Bool.{eq-eqb}
use Rattle.fax_runcodes.specs.Widths.{elements_of}
use Rattle.fax_pagestore.specs.WrittenPages.{next_tag, WritesRow, WritesRows}
use Rattle.fax_pagestore.proofs.RowsWritten.{RowsSoFar-none, RowsSoFar-more, RowsSoFar-all, tag_after_last, tag_after_inner, width_of_row}
use Rattle.fax_pagestore.proofs.writing.write_rows.Goals as goal
use Rattle.fax_pagestore.proofs.writing.write_rows.Goals.{then-next-count, else-next-count}

pub loop-index-init : goal.loop-index-init
loop-index-init g c =
    RowsSoFar-none (elements_of c.args.page.now.format.width) c.args.coding c.format.result.fine c.args.least_bits c.args.page.now.rows c.args.writer.now

pub write_filled_line-requires : goal.write_filled_line-requires
write_filled_line-requires g c = λ before is.
    let same = c.rows-rows.ensures.same in
    let inside : c.loop-index.index < length c.args.page.now.rows = omega (arith, c.len-count.ensures, ap length same) in
    let row_is : slice_get c.args.page.now.rows c.loop-index.index ≡ Some c.lend-row.result =
    ap (λ r. slice_get r c.loop-index.index) (sym same) ∙ c.lend-row.ensures in
    width_of_row (elements_of c.args.page.now.format.width) c.args.page.now.rows c.loop-index.index c.lend-row.result inside row_is c.rows-rows.ensures.are_rows.each
    ∙ sym (c.loop-index.invariant.same_width before (sym c.as_ref.ensures.value ∙ is))

pub loop-index-preserved : goal.loop-index-preserved
loop-index-preserved g c =
    let same = c.rows-rows.ensures.same in
    let count : c.len-count.result ≡ length c.args.page.now.rows = c.len-count.ensures ∙ ap length same in
    let inside : c.loop-index.index < length c.args.page.now.rows = omega arith in
    let row_is : slice_get c.args.page.now.rows c.loop-index.index ≡ Some c.lend-row.result =
    ap (λ r. slice_get r c.loop-index.index) (sym same) ∙ c.lend-row.ensures in
    let size : length c.lend-row.result ≡ elements_of c.args.page.now.format.width =
    width_of_row (elements_of c.args.page.now.format.width) c.args.page.now.rows c.loop-index.index c.lend-row.result inside row_is c.rows-rows.ensures.are_rows.each in
    let tag : c.if-next-count.tag ≡ next_tag c.args.coding c.format.result.fine c.loop-index.index (drop (c.loop-index.index + 1) c.args.page.now.rows) =
    elim c.if-next-count.branch [
      | then-next-count w ↦ tag_after_last c.args.coding c.format.result.fine c.loop-index.index c.args.page.now.rows c.if-next-count.tag (omega arith) (w.tag-is ∙ eq-eqb (c.loop-index.index + 1) c.len-count.result (omega arith))
      | else-next-count w ↦ tag_after_inner c.args.coding c.format.result.fine c.loop-index.index c.args.page.now.rows c.if-next-count.tag (omega arith) (w.tag-is ∙ w.is_one_dimensional-tag.ensures)
    ] in
    let line = c.in_ok-write_filled_line.ensures.ok in
    let writes : WritesRow (is_none c.loop-index.reference) c.loop-index.reference c.lend-row.result line.0 =
    subst (λ r. WritesRow (is_none r) r c.lend-row.result line.0) c.as_ref.ensures.value line.1 in
    RowsSoFar-more (elements_of c.args.page.now.format.width) c.args.coding c.format.result.fine c.args.least_bits c.args.page.now.rows c.loop-index.index
    c.loop-index.reference c.then_some-reference.result c.lend-row.result c.if-next-count.tag line.0 c.args.writer.now c.loop-index.writer
    c.write_filled_line.new.writer c.write_end_of_line.new.writer inside row_is size tag c.then_some-reference.ensures writes line.2
    c.in_ok-write_end_of_line.ensures.ok c.loop-index.invariant

pub returns : goal.returns
returns g c =
    let same = c.rows-rows.ensures.same in
    let count : c.len-count.result ≡ length c.args.page.now.rows = c.len-count.ensures ∙ ap length same in
    let all = RowsSoFar-all (elements_of c.args.page.now.format.width) c.args.coding c.format.result.fine c.args.least_bits c.args.page.now.rows c.loop-index.index
    c.loop-index.reference c.args.writer.now c.loop-index.writer (omega arith) c.loop-index.invariant in
    let fine : c.format.result.fine ≡ c.args.page.now.format.fine = ap (λ f. f.fine) c.format.ensures in
    subst (λ (f : Bool). (text : List Bool) × WritesRows c.args.coding f c.args.least_bits 0 None c.args.page.now.rows text × (c.loop-index.writer ≡ c.args.writer.now ++ text)) fine all
