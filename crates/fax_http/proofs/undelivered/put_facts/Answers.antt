use Rattle.std.proofs.Common.{codes, decimal}
use Rattle.fax_http.specs.Texts.{text_shown}
use Rattle.fax_http.specs.Undelivered.{facts_part}
use Rattle.fax_http.proofs.PartLemmas.{seven}
use Rattle.fax_http.proofs.undelivered.put_facts.Goals as goal

pub returns : goal.returns
unfolding facts_part
returns c =
    seven c.put-4.result c.args.octets.now.items (codes "<p>Pages: ") (decimal c.args.call.now.pages) (codes ". Tries: ") (decimal c.args.call.now.tries) (codes ", the last: ") (text_shown c.args.call.now.at.now) (codes ".</p>\n")
    _ _ _ _ _ _ _
    c.in_ok-put.ensures c.in_ok-put_number.ensures c.in_ok-put-2.ensures c.in_ok-put_number-2.ensures c.in_ok-put-3.ensures c.in_ok-put_text.ensures c.put-4.ensures
