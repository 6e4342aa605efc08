use Rattle.std.proofs.Common.{length}
use Rattle.fax_runcodes.specs.Widths.{elements_of}
use Rattle.fax_pagestore.specs.PageFaults.{last_of}
use Rattle.fax_pagestore.proofs.PageReading.{RowsSoFar, Keeps}
use Rattle.fax_pagestore.proofs.reading.read_rows.Given as goal

abbrev pub invariant-loop-window : goal.invariant-loop-window
invariant-loop-window g l =
    RowsSoFar l.coding (elements_of l.width) l.first l.fn.reader l.tag (last_of (g.S.RowStore.rows l.rows)) l.reader (g.S.RowStore.rows l.rows)
    × Keeps l.tag l.kept (g.S.RowStore.rows l.rows)

abbrev pub decreases-loop-window : goal.decreases-loop-window
decreases-loop-window g l = length l.reader.left
