use Rattle.std.proofs.Common.{◌≡◌, ◌<◌, ◌-◌, ◌+◌, length, drop, Some, None, is_none, slice_get, sym, ◌∙◌, ap, subst, arith}
use Rattle.std.proofs.lemmas.Bool.{eq-eqb}
use Rattle.std.proofs.lemmas.Result.{on_ok_weaker}
use Rattle.fax_runcodes.specs.Widths.{elements_of}
use Rattle.fax_mhcode.proofs.LineLaws.{IsWidth-elements}
use Rattle.fax_pagestore.specs.WrittenPages.{is_one_dimensional, next_tag, WritesRow}
use Rattle.fax_pagestore.specs.Writers.{row_ahead}
use Rattle.fax_pagestore.proofs.RowsWritten.{IsReference, tag_after_last, tag_after_inner, width_of_row}
use Rattle.fax_pagestore.proofs.TextLemmas.{width_some}
use Rattle.fax_pagestore.proofs.WriterLemmas.{row_written, row_longer, reference_alone, reference_after}
use Rattle.fax_pagestore.proofs.writer.write_row.Goals as goal
use Rattle.fax_pagestore.proofs.writer.write_row.Goals.{then-not-alone, else-not-alone, then-next-count, else-next-count}

pub write_filled_line-requires : goal.write_filled_line-requires
write_filled_line-requires g c = λ before is.
    let same = c.rows-rows.ensures.same in
    let inside : c.args.n < length c.args.page.now.rows = c.requires in
    let row_is : slice_get c.args.page.now.rows c.args.n ≡ Some c.lend-row.result = ap (λ r. slice_get r c.args.n) (sym same) ∙ c.lend-row.ensures in
    let reference : c.if-not-alone.reference ≡ Some before = sym c.as_ref.ensures.value ∙ is in
    width_of_row (elements_of c.args.page.now.format.width) c.args.page.now.rows c.args.n c.lend-row.result inside row_is c.rows-rows.ensures.are_rows.each
    ∙ elim c.if-not-alone.branch [
      | then-not-alone w ↦
          let other : w.lend.result ≡ before = let e : Some w.lend.result ≡ Some before = sym w.reference-is ∙ reference in cc in
          let other_is : slice_get c.args.page.now.rows (c.args.n - 1) ≡ Some w.lend.result = ap (λ r. slice_get r (c.args.n - 1)) (sym same) ∙ w.lend.ensures in
          sym (width_of_row (elements_of c.args.page.now.format.width) c.args.page.now.rows (c.args.n - 1) w.lend.result (omega arith) other_is c.rows-rows.ensures.are_rows.each) ∙ ap length other
      | else-not-alone w ↦ let e : None ≡ Some before = sym w.reference-is ∙ reference in absurd (cc)
    ]

pub returns-clause-on : goal.returns-clause-on
returns-clause-on g c =
    let same = c.rows-rows.ensures.same in
    let inside : c.args.n < length c.args.page.now.rows = c.requires in
    let count : c.len-count.result ≡ length c.args.page.now.rows = c.len-count.ensures ∙ ap length same in
    let row_is : slice_get c.args.page.now.rows c.args.n ≡ Some c.lend-row.result = ap (λ r. slice_get r c.args.n) (sym same) ∙ c.lend-row.ensures in
    let width = width_of_row (elements_of c.args.page.now.format.width) c.args.page.now.rows c.args.n c.lend-row.result inside row_is c.rows-rows.ensures.are_rows.each in
    let wide = width_some (elements_of c.args.page.now.format.width) (IsWidth-elements c.args.page.now.format.width) in
    let alone : c.is_one_dimensional-alone.result ≡ is_one_dimensional c.args.coding c.args.page.now.format.fine c.args.n =
    c.is_one_dimensional-alone.ensures ∙ ap (λ f. is_one_dimensional c.args.coding f.fine c.args.n) c.format.ensures in
    let reference : IsReference (is_one_dimensional c.args.coding c.args.page.now.format.fine c.args.n) (row_ahead c.args.page.now.rows c.args.n) c.if-not-alone.reference =
    elim c.if-not-alone.branch [
      | then-not-alone w ↦ reference_after c.args.coding c.args.page.now.format.fine c.args.page.now.rows c.args.n w.lend.result c.if-not-alone.reference
          (sym alone ∙ w.if-not-alone.true) (ap (λ r. slice_get r (c.args.n - 1)) (sym same) ∙ w.lend.ensures) w.reference-is
      | else-not-alone w ↦ reference_alone (is_one_dimensional c.args.coding c.args.page.now.format.fine c.args.n) (row_ahead c.args.page.now.rows c.args.n) c.if-not-alone.reference
          (sym alone ∙ w.if-not-alone.false) w.reference-is
    ] in
    let tag : c.if-next-count.tag ≡ next_tag c.args.coding c.args.page.now.format.fine c.args.n (drop (c.args.n + 1) c.args.page.now.rows) =
    elim c.if-next-count.branch [
      | then-next-count w ↦ tag_after_last c.args.coding c.args.page.now.format.fine c.args.n c.args.page.now.rows c.if-next-count.tag (omega arith)
          (w.tag-is ∙ eq-eqb (c.args.n + 1) c.len-count.result (omega arith))
      | else-next-count w ↦ tag_after_inner c.args.coding c.args.page.now.format.fine c.args.n c.args.page.now.rows c.if-next-count.tag (omega arith)
          (w.tag-is ∙ w.is_one_dimensional-tag.ensures ∙ ap (λ f. is_one_dimensional c.args.coding f.fine (c.args.n + 1)) c.format.ensures)
    ] in
    let line = c.in_ok-write_filled_line.ensures.ok in
    on_ok_weaker c.write_end_of_line.result
    (λ end. row_written c.args.coding c.args.least_bits c.args.page.now c.args.n c.args.writer.now c.write_filled_line.new.writer c.write_end_of_line.new.writer record {
      row = c.lend-row.result;
      reference = c.if-not-alone.reference;
      tag = c.if-next-count.tag;
      line = line.0;
      inside = inside;
      is = row_is;
      some = omega (arith, width, wide);
      is_reference = reference;
      tag_is = tag;
      writes = subst (λ r. WritesRow (is_none r) r c.lend-row.result line.0) c.as_ref.ensures.value line.1;
      line_put = line.2;
      end_put = end;
    })
    c.write_end_of_line.ensures.ok

pub returns-clause-more : goal.returns-clause-more
returns-clause-more g c =
    let line = c.in_ok-write_filled_line.ensures.ok in
    on_ok_weaker c.write_end_of_line.result
    (λ end. row_longer c.args.coding c.if-next-count.tag c.args.writer.now _ c.write_filled_line.new.writer c.write_end_of_line.new.writer line.2 end)
    c.write_end_of_line.ensures.ok
