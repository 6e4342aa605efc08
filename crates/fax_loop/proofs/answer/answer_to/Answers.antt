use Rattle.std.proofs.Common.{rules, ◌∙◌}
use Rattle.fax_loop.specs.declared.ending.Ending.TheVariants as endings
use Rattle.fax_loop.proofs.AnswerLemmas.{EndsSo-memory, EndsSo-fault}
use Rattle.fax_loop.proofs.answer.answer_to.Goals as goal

pub returns-in-Err-NoMemory : goal.returns-in-Err-NoMemory
returns-in-Err-NoMemory g c = λ text is. EndsSo-memory _ c.args.input.items text is

pub returns-in-Ok-line : goal.returns-in-Ok-line
returns-in-Ok-line g c = λ text is. EndsSo-fault _ c.args.input.items text endings.Fault c.in-Err.fault c.in-Err.ensures.fault (search rules) (is ∙ c.in-Ok-line.ensures)

pub returns-in-Err-line : goal.returns-in-Err-line
returns-in-Err-line g c = λ text is. EndsSo-memory _ c.args.input.items text is
