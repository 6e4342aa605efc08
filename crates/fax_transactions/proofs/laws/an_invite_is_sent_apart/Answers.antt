use Rattle.fax_transactions.proofs.ClientInviteProofs.{invite_is_sent_apart}
use Rattle.fax_transactions.proofs.laws.an_invite_is_sent_apart.Goals as goal

pub returns : goal.returns
returns c = invite_is_sent_apart
