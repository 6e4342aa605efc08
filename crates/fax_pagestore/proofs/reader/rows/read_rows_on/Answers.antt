use Rattle.std.proofs.Common.{Bool, Result, Ok, ap, ◌∙◌}
use Rattle.fax_runcodes.specs.Widths.{elements_of}
use Rattle.fax_pagestore.specs.declared.reader.rows.Stop.{Stop}
use Rattle.fax_pagestore.specs.Readers.{ReadsOne}
use Rattle.fax_pagestore.proofs.ReaderLemmas.{ReadsOne-shorter, RowsRead-more}
use Rattle.fax_pagestore.proofs.reader.rows.read_rows_on.Goals as goal
use Rattle.fax_pagestore.proofs.reader.rows.read_rows_on.Goals.{In-Ok}
use Rattle.fax_pagestore.proofs.reader.rows.read_rows_on.Given.{Over}

-- the row that was read
one : (g : Over) (c : In-Ok g) → ReadsOne c.args.coding (elements_of c.args.width) c.loop-spare.tag c.in-Ok.next (g.S.RowStore.rows c.loop-spare.rows) (g.S.RowStore.rows c.read_next.new.rows) c.loop-spare.reader c.read_next.new.reader
one g c = c.read_next.ensures.row c.in-Ok.next (c.in_ok-next.was ∙ ap (λ (n : Result Bool Stop). Ok n) c.in-Ok.is)

pub loop-spare-smaller : goal.loop-spare-smaller
loop-spare-smaller g c =
    ReadsOne-shorter c.args.coding (elements_of c.args.width) c.loop-spare.tag c.in-Ok.next (g.S.RowStore.rows c.loop-spare.rows) (g.S.RowStore.rows c.read_next.new.rows) c.loop-spare.reader c.read_next.new.reader
    (one g (goal.at.loop-spare-smaller g c).In-Ok)

pub loop-spare-preserved : goal.loop-spare-preserved
loop-spare-preserved g c =
    RowsRead-more c.args.coding (elements_of c.args.width) c.args.first c.loop-spare.tag c.in-Ok.next (g.S.RowStore.rows c.args.rows.now) (g.S.RowStore.rows c.loop-spare.rows) (g.S.RowStore.rows c.read_next.new.rows)
    c.args.reader.now c.loop-spare.reader c.read_next.new.reader c.loop-spare.kept c.read_next.new.kept c.loop-spare.invariant (one g (goal.at.loop-spare-preserved g c).In-Ok)
    (c.read_next.ensures.room c.in-Ok.next (c.in_ok-next.was ∙ ap (λ (n : Result Bool Stop). Ok n) c.in-Ok.is))
    (c.read_next.ensures.kept c.in-Ok.next (c.in_ok-next.was ∙ ap (λ (n : Result Bool Stop). Ok n) c.in-Ok.is))
