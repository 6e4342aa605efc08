use Rattle.std.proofs.Common.{codes}
use Rattle.fax_http.specs.Texts.{text_shown}
use Rattle.fax_http.proofs.PartLemmas.{three}
use Rattle.fax_http.proofs.cells.put_name.Goals as goal

pub returns : goal.returns
returns c =
    three c.put-2.result c.args.octets.now.items (codes "<th scope=\"row\">") (text_shown c.args.name.now) (codes "</th>")
    _ _ _
    c.in_ok-put.ensures c.in_ok-put_text.ensures c.put-2.ensures
