use Rattle.std.proofs.Common.{◌≡◌, ◌+◌, ◌∷◌, [], ◌++◌, length, take, ◌∙◌, arith, ◌≤◌}
use Rattle.fax_runcodes.specs.Widths.{elements_of}
use Rattle.fax_c.proofs.RunsLemmas.{AreRunsOf-push, take_more_at, row_fits, some_width, drop_further}
use Rattle.fax_c.proofs.reading.fill_runs.Goals as goal

pub put_row-filled-requires-clause-room : goal.put_row-filled-requires-clause-room
put_row-filled-requires-clause-room g c =
    let rows = c.args.page.now.rows in
    let width = c.args.page.now.format.width in
    let row = c.lend-row.result in
    let so_far = c.loop-i.invariant in
    let same = c.rows-rows.ensures.same in
    let (all, are_all, total) = c.count_all_runs-wanted.ensures in
    let (mine, are, size) = c.count_runs.ensures.runs in
    let fit : c.loop-i.filled + length mine ≤ length c.loop-i.runs =
    row_fits rows c.loop-i.i row (elements_of width) all mine c.loop-i.runs c.loop-i.filled (some_width width) c.rows-rows.ensures.are_rows.each
    are_all so_far.runs (rw same at c.lend-row.ensures) are so_far.filled (omega (arith, total, c.if-wanted-runs.false, so_far.same)) in
    omega (arith, fit, size)

pub loop-i-preserved : goal.loop-i-preserved
loop-i-preserved g c =
    let rows = c.args.page.now.rows in
    let i = c.loop-i.i in
    let row = c.lend-row.result in
    let so_far = c.loop-i.invariant in
    let (mine, are, taken) = c.put_row-filled.ensures.runs in
    let next : take (i + 1) rows ≡ take i rows ++ row ∷ [] = take_more_at rows i row (rw c.rows-rows.ensures.same at c.lend-row.ensures) in
    record {
      runs = rw (taken, next) (AreRunsOf-push (take c.loop-i.filled c.loop-i.runs) (take i rows) mine row so_far.runs are);
      filled = c.put_row-filled.ensures.within;
      same = c.put_row-filled.ensures.same_room ∙ so_far.same;
      after = c.put_row-filled.ensures.after ∙ rw c.put_row-filled.ensures.end (drop_further c.loop-i.runs c.args.runs.now c.loop-i.filled c.count_runs.result so_far.after);
    }
