use Rattle.fax_notes.proofs.Keeping as lemmas
use Rattle.fax_notes.proofs.laws.keeps_answers.Goals as goal

pub returns : goal.returns
returns c = lemmas.keeps_answers
