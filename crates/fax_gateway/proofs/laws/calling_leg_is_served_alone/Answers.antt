use Rattle.fax_gateway.proofs.ServedAlone as lemmas
use Rattle.fax_gateway.proofs.laws.calling_leg_is_served_alone.Goals as goal

pub returns : goal.returns
returns c = lemmas.served_alone
