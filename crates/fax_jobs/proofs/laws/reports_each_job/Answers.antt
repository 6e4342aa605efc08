use Rattle.fax_jobs.proofs.Reporting as lemmas
use Rattle.fax_jobs.proofs.laws.reports_each_job.Goals as goal

pub returns : goal.returns
returns c = lemmas.reports_each_job
