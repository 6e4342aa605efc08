use Rattle.std.proofs.Common.{codes, decimal}
use Rattle.fax_http.specs.Pages.{lines_part, lines_table}
use Rattle.fax_http.proofs.PartLemmas.{four}
use Rattle.fax_http.proofs.page.put_lines.Goals as goal

pub returns : goal.returns
unfolding lines_part
returns c =
    four c.put-2.result c.args.octets.now.items (lines_table c.args.lines.now) (codes "<p>Other lines: ") (decimal c.args.others) (codes ".</p>\n</section>\n")
    _ _ _ _
    c.in_ok-put_lines_table.ensures c.in_ok-put.ensures c.in_ok-put_number.ensures c.put-2.ensures
