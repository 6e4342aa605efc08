use Rattle.std.proofs.Common.{flat_map}
use Rattle.fax_http.specs.declared.page.TheConstants.{BOTTOM, COUNTS, ROWS_END}
use Rattle.fax_http.specs.Pages.{count_row, counts_part}
use Rattle.fax_http.proofs.PartLemmas.{four}
use Rattle.fax_http.proofs.page.put_counts.Goals as goal

pub returns : goal.returns
unfolding counts_part
returns c =
    four c.put-3.result c.args.octets.now.items COUNTS.now (flat_map count_row c.args.counts.now) ROWS_END.now BOTTOM.now
    _ _ _ _
    c.in_ok-put.ensures c.in_ok-put_count_rows.ensures c.in_ok-put-2.ensures c.put-3.ensures
