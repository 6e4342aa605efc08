use Rattle.fax_jobs.proofs.CallCuts as lemmas
use Rattle.fax_jobs.proofs.laws.keeps_jobs.Goals as goal

pub returns : goal.returns
returns c = lemmas.keeps_jobs
