use Rattle.fax_gateway.proofs.OfTheirCalls as lemmas
use Rattle.fax_gateway.proofs.laws.jobs_are_of_their_calls.Goals as goal

pub returns : goal.returns
returns c = lemmas.of_their_calls
