use Rattle.fax_jobs.proofs.OneCut as lemmas
use Rattle.fax_jobs.proofs.laws.holds_each_page_once.Goals as goal

pub returns : goal.returns
returns c = lemmas.holds_each_page_once
