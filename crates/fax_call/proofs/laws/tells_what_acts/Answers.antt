use Rattle.fax_call.proofs.Tellings as lemmas
use Rattle.fax_call.proofs.laws.tells_what_acts.Goals as goal

pub returns : goal.returns
returns c = lemmas.tells_what_acts
