use Rattle.fax_transactions.proofs.ServerRequestProofs.{request_ends}
use Rattle.fax_transactions.proofs.laws.a_served_request_ends.Goals as goal

pub returns : goal.returns
returns c = request_ends
