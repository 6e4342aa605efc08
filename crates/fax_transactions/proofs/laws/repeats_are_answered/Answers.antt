use Rattle.fax_transactions.proofs.ServerInviteProofs.{invite_repeats_are_answered}
use Rattle.fax_transactions.proofs.ServerRequestProofs.{request_repeats_are_answered}
use Rattle.fax_transactions.proofs.laws.repeats_are_answered.Goals as goal

pub returns-clause-invite : goal.returns-clause-invite
returns-clause-invite c = invite_repeats_are_answered

pub returns-clause-request : goal.returns-clause-request
returns-clause-request c = request_repeats_are_answered
