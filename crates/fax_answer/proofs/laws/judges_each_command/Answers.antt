use Rattle.fax_answer.proofs.Judging as lemmas
use Rattle.fax_answer.proofs.laws.judges_each_command.Goals as goal

pub returns : goal.returns
returns c = lemmas.judges_each_command
