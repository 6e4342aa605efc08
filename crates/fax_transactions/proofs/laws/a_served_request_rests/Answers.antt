use Rattle.fax_transactions.proofs.ServerInviteProofs.{invite_rests}
use Rattle.fax_transactions.proofs.ServerRequestProofs.{request_rests}
use Rattle.fax_transactions.proofs.laws.a_served_request_rests.Goals as goal

pub returns-clause-invite : goal.returns-clause-invite
returns-clause-invite c = invite_rests

pub returns-clause-request : goal.returns-clause-request
returns-clause-request c = request_rests
