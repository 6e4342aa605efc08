use Rattle.fax_gateway.proofs.Cutting as lemmas
use Rattle.fax_gateway.proofs.laws.jobs_are_cut.Goals as goal

pub returns : goal.returns
returns c = lemmas.jobs_are_cut
