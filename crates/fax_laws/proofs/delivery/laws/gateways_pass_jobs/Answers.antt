use Rattle.fax_laws.proofs.delivery.WholeGateway as lemmas
use Rattle.fax_laws.proofs.delivery.laws.gateways_pass_jobs.Goals as goal

pub returns-clause-pass : goal.returns-clause-pass
returns-clause-pass c = lemmas.gateways_pass_jobs

pub returns-clause-reports : goal.returns-clause-reports
returns-clause-reports c = lemmas.reports_are_of_jobs
