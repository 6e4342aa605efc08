use Rattle.std.proofs.Common.{codes}
use Rattle.fax_http.specs.declared.undelivered.TheConstants.{DISCARD, RETRY}
use Rattle.fax_http.specs.Undelivered.{facts_part, heading_part, told_part, why_part, word_part}
use Rattle.fax_http.proofs.PartLemmas.{seven}
use Rattle.fax_http.proofs.undelivered.put_told.Goals as goal

pub returns : goal.returns
unfolding told_part
returns c =
    let view = c.args.call.now in
    seven c.put-2.result c.args.octets.now.items (codes "<div>\n") (heading_part view) (facts_part view) (why_part view) (word_part RETRY.now view) (word_part DISCARD.now view) (codes "</div>\n")
    _ _ _ _ _ _ _
    c.in_ok-put.ensures c.in_ok-put_heading.ensures c.in_ok-put_facts.ensures c.in_ok-put_why.ensures c.in_ok-put_word.ensures c.in_ok-put_word-2.ensures c.put-2.ensures
