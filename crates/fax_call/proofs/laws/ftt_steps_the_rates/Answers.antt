use Rattle.fax_call.proofs.Steps as lemmas
use Rattle.fax_call.proofs.laws.ftt_steps_the_rates.Goals as goal

pub returns : goal.returns
returns c = lemmas.ftt_steps_the_rates
