use Rattle.std.proofs.Common.{length}
use Rattle.fax_runcodes.specs.Widths.{elements_of}
use Rattle.fax_pagestore.proofs.ReaderLemmas.{RowsRead}
use Rattle.fax_pagestore.proofs.reader.rows.read_rows_on.Given as goal

abbrev pub invariant-loop-spare : goal.invariant-loop-spare
invariant-loop-spare g l = RowsRead l.coding (elements_of l.width) l.first (g.S.RowStore.rows l.fn.rows) l.fn.reader l.tag l.kept (g.S.RowStore.rows l.rows) l.reader

abbrev pub decreases-loop-spare : goal.decreases-loop-spare
decreases-loop-spare g l = length l.reader.left
