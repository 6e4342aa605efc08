use Rattle.fax_answer.proofs.InPage as lemmas
use Rattle.fax_answer.proofs.laws.begins_in_page.Goals as goal

pub returns : goal.returns
returns c = lemmas.begins_in_page
