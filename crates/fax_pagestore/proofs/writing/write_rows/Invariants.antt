use Rattle.fax_runcodes.specs.Widths.{elements_of}
use Rattle.fax_pagestore.proofs.RowsWritten.{RowsSoFar}
use Rattle.fax_pagestore.proofs.writing.write_rows.Given as goal

abbrev pub invariant-loop-index : goal.invariant-loop-index
invariant-loop-index g l = RowsSoFar (elements_of l.page.format.width) l.coding l.fine l.least_bits l.page.rows l.index l.reference l.initial.writer l.writer
