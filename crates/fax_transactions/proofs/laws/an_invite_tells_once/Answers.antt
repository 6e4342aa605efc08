use Rattle.fax_transactions.proofs.ClientInviteProofs.{invite_tells_once}
use Rattle.fax_transactions.proofs.laws.an_invite_tells_once.Goals as goal

pub returns : goal.returns
returns c = invite_tells_once
