use Rattle.std.proofs.Common.{codes, decimal}
use Rattle.fax_http.proofs.PartLemmas.{three}
use Rattle.fax_http.proofs.cells.put_number_cell.Goals as goal

pub returns : goal.returns
returns c =
    three c.put-2.result c.args.octets.now.items (codes "<td class=\"number\">") (decimal c.args.number) (codes "</td>")
    _ _ _
    c.in_ok-put.ensures c.in_ok-put_number.ensures c.put-2.ensures
