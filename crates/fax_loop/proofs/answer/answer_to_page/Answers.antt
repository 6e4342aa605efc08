use Rattle.fax_loop.proofs.AnswerLemmas.{EndsSo-memory, EndsSo-told}
use Rattle.fax_loop.proofs.answer.answer_to_page.Goals as goal

pub returns-in-Err-NoMemory : goal.returns-in-Err-NoMemory
returns-in-Err-NoMemory g c = λ input text means is. EndsSo-memory _ input text is

pub returns-in-Ok : goal.returns-in-Ok
returns-in-Ok g c = λ input text is told. EndsSo-told _ input text c.args.page _ _ _ is c.in-Ok.ensures (c.answer_of.ensures text told)
