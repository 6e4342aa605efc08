use Rattle.fax_gateway.proofs.LegsRead as lemmas
use Rattle.fax_gateway.proofs.laws.legs_are_read.Goals as goal

pub returns : goal.returns
returns c = lemmas.leg_is_read
