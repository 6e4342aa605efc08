use Rattle.fax_transactions.proofs.ClientRequestProofs.{request_rests}
use Rattle.fax_transactions.proofs.laws.a_request_rests.Goals as goal

pub returns : goal.returns
returns c = request_rests
