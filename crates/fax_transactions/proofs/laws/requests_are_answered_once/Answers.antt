use Rattle.fax_transactions.proofs.ServerInviteProofs.{invite_is_answered_once}
use Rattle.fax_transactions.proofs.ServerRequestProofs.{request_is_answered_once}
use Rattle.fax_transactions.proofs.laws.requests_are_answered_once.Goals as goal

pub returns-clause-invite : goal.returns-clause-invite
returns-clause-invite c = invite_is_answered_once

pub returns-clause-request : goal.returns-clause-request
returns-clause-request c = request_is_answered_once
