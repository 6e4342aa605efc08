use Rattle.fax_transactions.proofs.ClientInviteProofs.{invite_ends}
use Rattle.fax_transactions.proofs.laws.an_invite_ends.Goals as goal

pub returns : goal.returns
returns c = invite_ends
