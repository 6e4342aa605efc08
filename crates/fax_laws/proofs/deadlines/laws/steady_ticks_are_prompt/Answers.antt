use Rattle.fax_laws.proofs.deadlines.Prompts.{steady_are_prompt}
use Rattle.fax_laws.proofs.deadlines.laws.steady_ticks_are_prompt.Goals as goal

pub returns : goal.returns
returns c = steady_are_prompt
