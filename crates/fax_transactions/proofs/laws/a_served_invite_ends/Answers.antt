use Rattle.fax_transactions.proofs.ServerInviteProofs.{invite_ends}
use Rattle.fax_transactions.proofs.laws.a_served_invite_ends.Goals as goal

pub returns : goal.returns
returns c = invite_ends
