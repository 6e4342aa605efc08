use Rattle.std.proofs.Common.{sym, ◌∙◌}
use Rattle.fax_runcodes.specs.Widths.{elements_of}
use Rattle.fax_pbm.proofs.RowLemmas.{raster_rows-none}
use Rattle.fax_pbm.proofs.reading.read_raster.Goals as goal

pub returns-else-are_rows-clause-fault : goal.returns-else-are_rows-clause-fault
returns-else-are_rows-clause-fault c =
    λ _. raster_rows-none (elements_of c.args.width) c.args.height c.args.raster.now (sym c.are_rows.ensures ∙ c.if-are_rows.false)
