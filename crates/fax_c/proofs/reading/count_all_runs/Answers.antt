use Rattle.std.proofs.Common.{◌≡◌, ◌+◌, ◌∷◌, [], ◌++◌, take, arith, length-append}
use Rattle.fax_runcodes.specs.Widths.{elements_of}
use Rattle.fax_c.proofs.RunsLemmas.{AreRunsOf-push, take_more_at, row_width, most_width}
use Rattle.fax_c.proofs.reading.count_all_runs.Goals as goal

pub overflow_add-total : goal.overflow_add-total
overflow_add-total g c =
    let rows = c.args.page.now.rows in
    let width = c.args.page.now.format.width in
    let wide = row_width rows c.loop-i.i c.lend.result (elements_of width) c.rows-rows.ensures.are_rows.each (rw c.rows-rows.ensures.same at c.lend.ensures) in
    omega (arith, c.loop-i.invariant.few, c.count_runs-total.ensures.few, wide, most_width width)

pub loop-i-preserved : goal.loop-i-preserved
loop-i-preserved g c =
    let rows = c.args.page.now.rows in
    let width = c.args.page.now.format.width in
    let i = c.loop-i.i in
    let row = c.lend.result in
    let so_far = c.loop-i.invariant in
    let (mine, are, size) = c.count_runs-total.ensures.runs in
    let found = rw c.rows-rows.ensures.same at c.lend.ensures in
    let next : take (i + 1) rows ≡ take i rows ++ row ∷ [] = take_more_at rows i row found in
    let wide = row_width rows i row (elements_of width) c.rows-rows.ensures.are_rows.each found in
    record {
      list = so_far.list ++ mine;
      runs = rw next (AreRunsOf-push so_far.list (take i rows) mine row so_far.runs are);
      total = omega (arith, length-append so_far.list mine, so_far.total, size);
      few = omega (arith, so_far.few, c.count_runs-total.ensures.few, wide, most_width width);
    }
