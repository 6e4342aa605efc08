use Rattle.fax_gateway.proofs.RefusedJobs as lemmas
use Rattle.fax_gateway.proofs.laws.reports_the_refusal.Goals as goal

pub returns : goal.returns
returns c = lemmas.reports_the_refusal
