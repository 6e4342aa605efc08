use Rattle.fax_transactions.proofs.ClientRequestProofs.{request_is_sent_apart}
use Rattle.fax_transactions.proofs.laws.a_request_is_sent_apart.Goals as goal

pub returns : goal.returns
returns c = request_is_sent_apart
