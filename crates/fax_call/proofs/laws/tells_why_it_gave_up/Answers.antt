use Rattle.fax_call.proofs.GivingUp as lemmas
use Rattle.fax_call.proofs.laws.tells_why_it_gave_up.Goals as goal

pub returns : goal.returns
returns c = lemmas.tells_why_it_gave_up
