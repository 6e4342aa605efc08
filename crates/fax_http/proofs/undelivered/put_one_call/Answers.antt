use Rattle.std.proofs.Common.{codes}
use Rattle.fax_http.specs.Undelivered.{call_part, picture_part, told_part}
use Rattle.fax_http.proofs.PartLemmas.{four}
use Rattle.fax_http.proofs.undelivered.put_one_call.Goals as goal

pub returns : goal.returns
unfolding call_part
returns c =
    four c.put-2.result c.args.octets.now.items (codes "<article>\n") (picture_part c.args.call.now) (told_part c.args.call.now) (codes "</article>\n")
    _ _ _ _
    c.in_ok-put.ensures c.in_ok-put_picture.ensures c.in_ok-put_told.ensures c.put-2.ensures
