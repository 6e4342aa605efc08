use Rattle.std.proofs.Common.{codes}
use Rattle.fax_http.specs.Texts.{text_shown}
use Rattle.fax_http.specs.Undelivered.{why_part}
use Rattle.fax_http.proofs.PartLemmas.{three}
use Rattle.fax_http.proofs.undelivered.put_why.Goals as goal

pub returns : goal.returns
unfolding why_part
returns c =
    three c.put-2.result c.args.octets.now.items (codes "<p>Why: ") (text_shown c.args.call.now.outcome.now) (codes ".</p>\n")
    _ _ _
    c.in_ok-put.ensures c.in_ok-put_text.ensures c.put-2.ensures
