use Rattle.fax_answer.proofs.Judging as lemmas
use Rattle.fax_answer.proofs.laws.refuses_what_means_no_page.Goals as goal

pub returns : goal.returns
returns c = lemmas.refuses_no_page
