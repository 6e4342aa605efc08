use Rattle.fax_command.proofs.AnswerLemmas.{Answers-memory}
use Rattle.fax_command.proofs.answer.answer_to.Goals as goal

pub returns-in-Err-line : goal.returns-in-Err-line
returns-in-Err-line c = λ text is. Answers-memory c.args.options c.args.input.items text is
