use Rattle.fax_jobs.proofs.CallCuts as lemmas
use Rattle.fax_jobs.proofs.laws.cuts_each_call.Goals as goal

pub returns : goal.returns
returns c = lemmas.cuts_each_call
