use Rattle.fax_transactions.proofs.ClientInviteProofs.{invite_rests}
use Rattle.fax_transactions.proofs.laws.an_invite_rests.Goals as goal

pub returns : goal.returns
returns c = invite_rests
