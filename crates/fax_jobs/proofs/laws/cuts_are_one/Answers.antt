use Rattle.fax_jobs.proofs.OneCut as lemmas
use Rattle.fax_jobs.proofs.laws.cuts_are_one.Goals as goal

pub returns : goal.returns
returns c = lemmas.cuts_are_one
