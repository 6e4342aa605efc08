use Rattle.std.proofs.Common.{codes}
use Rattle.fax_http.specs.Cells.{called_cell, calling_cell, name_cell, number_cell}
use Rattle.fax_http.specs.Pages.{line_row}
use Rattle.fax_http.proofs.PartLemmas.{six}
use Rattle.fax_http.proofs.page.put_line.Goals as goal

pub returns : goal.returns
unfolding line_row
returns c =
    six c.put-2.result c.args.octets.now.items (codes "<tr>") (name_cell c.args.line.now.name.now) (calling_cell c.args.line.now.calling) (called_cell c.args.line.now.called) (number_cell c.args.line.now.waiting) (codes "</tr>\n")
    _ _ _ _ _ _
    c.in_ok-put.ensures c.in_ok-put_name.ensures c.in_ok-put_calling.ensures c.in_ok-put_called.ensures c.in_ok-put_number_cell.ensures c.put-2.ensures
