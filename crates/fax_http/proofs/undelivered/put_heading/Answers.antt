use Rattle.std.proofs.Common.{codes}
use Rattle.fax_http.specs.Cells.{call_shown}
use Rattle.fax_http.specs.Texts.{text_shown}
use Rattle.fax_http.specs.Undelivered.{heading_part}
use Rattle.fax_http.proofs.PartLemmas.{five}
use Rattle.fax_http.proofs.undelivered.put_heading.Goals as goal

pub returns : goal.returns
unfolding heading_part
returns c =
    five c.put-3.result c.args.octets.now.items (codes "<h3>") (text_shown c.args.call.now.line.now) (codes ": ") (call_shown c.args.call.now.call) (codes "</h3>\n")
    _ _ _ _ _
    c.in_ok-put.ensures c.in_ok-put_text.ensures c.in_ok-put-2.ensures c.in_ok-put_call.ensures c.put-3.ensures
