use Rattle.fax_gateway.proofs.States as lemmas
use Rattle.fax_gateway.proofs.laws.jobs_have_states.Goals as goal

pub returns : goal.returns
returns c = lemmas.have_states
