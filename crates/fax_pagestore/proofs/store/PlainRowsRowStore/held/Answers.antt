use Rattle.std.proofs.Common.{◌≡◌, ◌<◌, List, length, get_or, sym, ◌∙◌, ap, arith}
use Rattle.fax_runcodes.specs.Rows.{Elements}
use Rattle.fax_pagestore.specs.Octets.{octets_of_row}
use Rattle.fax_pagestore.proofs.OctetsLemmas.{octets_of_rows-none, octets_of_rows-more}
use Rattle.fax_pagestore.proofs.store.PlainRowsRowStore.held.Goals as goal

pub loop-row-init : goal.loop-row-init
loop-row-init c = record { counted = sym octets_of_rows-none; few = omega arith }

pub loop-row-preserved : goal.loop-row-preserved
loop-row-preserved c =
    let rows : List Elements = c.args.self.now.rows.items in
    let inside : c.loop-row.row-index < length rows = omega (arith, c.deref-row-items.ensures.len, c.args.self.now.rows.ok.0) in
    let more = octets_of_rows-more rows c.loop-row.row-index c.row-item.result inside in
    let own : c.held_by_row-held.result ≡ octets_of_row (get_or rows c.loop-row.row-index c.row-item.result) =
    c.held_by_row-held.ensures.octets
    ∙ ap (λ (row : Elements). octets_of_row row) (c.lend.ensures ∙ c.row-item.is ∙ ap (λ (items : List Elements). get_or items c.loop-row.row-index c.row-item.result) c.deref-row-items.ensures.value) in
    record { counted = omega (arith, c.loop-row.invariant.counted); few = omega (arith, c.loop-row.invariant.few, c.held_by_row-held.ensures.few) }
