use Rattle.fax_laws.proofs.delivery.Whole as lemmas
use Rattle.fax_laws.proofs.delivery.laws.over_is_delivered.Goals as goal

pub returns : goal.returns
returns c = lemmas.over_is_delivered
