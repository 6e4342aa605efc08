use Rattle.std.proofs.Common.{◌++◌, ◌∙◌, refl, subst}
use Rattle.std.proofs.KnownBytes.{Appends-trans}
use Rattle.std.proofs.lemmas.Option.{slice_get_read}
use Rattle.fax_command.specs.RowLines.{TellRows}
use Rattle.fax_command.proofs.TellLemmas.{text_of_lines-append}
use Rattle.fax_loop.proofs.LoopLemmas.{TellRows-append, rows_of-more}
use Rattle.fax_loop.proofs.answer.write_pages.Goals as goal

pub loop-page-preserved : goal.loop-page-preserved
loop-page-preserved g c =
    let so_far = c.loop-page.invariant in
    let pages = c.args.pages.now in
    let i = c.loop-page.page-index in
    let sink = g.O.Sink in
    let (more, tell, written) = c.in_ok-write_rows.ensures.text in
    record {
      lines = so_far.lines ++ more;
      tell = rw (rows_of-more pages i c.page-item.result (slice_get_read pages _ i c.page-item.result refl c.loop-page-test.true c.page-item.is)) (TellRows-append so_far.lines more _ _ so_far.tell (subst (λ rows. TellRows more rows) c.rows.ensures.same tell));
      written = rw (text_of_lines-append so_far.lines more) (Appends-trans _ _ _ _ _ so_far.written written);
      failed = c.in_ok-write_rows.ensures.failed ∙ so_far.failed;
    }
