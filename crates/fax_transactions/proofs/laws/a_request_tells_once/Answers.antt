use Rattle.fax_transactions.proofs.ClientRequestProofs.{request_tells_once}
use Rattle.fax_transactions.proofs.laws.a_request_tells_once.Goals as goal

pub returns : goal.returns
returns c = request_tells_once
