use Rattle.fax_laws.proofs.deadlines.Prompts.{prompt_go_on}
use Rattle.fax_laws.proofs.deadlines.laws.prompt_traces_go_on.Goals as goal

pub returns : goal.returns
returns c = prompt_go_on
