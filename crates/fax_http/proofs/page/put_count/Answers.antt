use Rattle.std.proofs.Common.{codes}
use Rattle.fax_http.specs.Cells.{name_cell, number_cell}
use Rattle.fax_http.specs.Pages.{count_row}
use Rattle.fax_http.proofs.PartLemmas.{four}
use Rattle.fax_http.proofs.page.put_count.Goals as goal

pub returns : goal.returns
unfolding count_row
returns c =
    four c.put-2.result c.args.octets.now.items (codes "<tr>") (name_cell c.args.count.now.name.now) (number_cell c.args.count.now.value) (codes "</tr>\n")
    _ _ _ _
    c.in_ok-put.ensures c.in_ok-put_name.ensures c.in_ok-put_number_cell.ensures c.put-2.ensures
