use Rattle.std.proofs.Common.{flat_map}
use Rattle.fax_http.specs.declared.page.TheConstants.{LINES, ROWS_END}
use Rattle.fax_http.specs.Pages.{line_row, shown_lines}
use Rattle.fax_http.proofs.PartLemmas.{three}
use Rattle.fax_http.proofs.page.put_shown_lines.Goals as goal

pub returns : goal.returns
unfolding shown_lines
returns c =
    three c.put-2.result c.args.octets.now.items LINES.now (flat_map line_row c.args.lines.now) ROWS_END.now
    _ _ _
    c.in_ok-put.ensures c.in_ok-put_line_rows.ensures c.put-2.ensures
