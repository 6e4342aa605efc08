use Rattle.std.proofs.Common.{codes}
use Rattle.fax_sip.specs.Requests.{branch_part}
use Rattle.fax_sip.proofs.AnswerLemmas.{three_parts}
use Rattle.fax_sip.proofs.requesting.put_via.Goals as goal

pub returns : goal.returns
returns c =
    three_parts c.put_branch.result c.args.octets.now.items (codes "Via: SIP/2.0/UDP ") c.args.sent_by.now (branch_part c.args.branch.now) _ _ _
    c.in_ok-extend_from_slice.ensures.items c.in_ok-extend_from_slice-2.ensures.items c.put_branch.ensures
