use Rattle.fax_transactions.proofs.ClientRequestProofs.{request_ends}
use Rattle.fax_transactions.proofs.laws.a_request_ends.Goals as goal

pub returns : goal.returns
returns c = request_ends
