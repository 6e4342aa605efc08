use Rattle.fax_gateway.proofs.Reporting as lemmas
use Rattle.fax_gateway.proofs.laws.reports_the_job.Goals as goal

pub returns : goal.returns
returns c = lemmas.reports_the_job
