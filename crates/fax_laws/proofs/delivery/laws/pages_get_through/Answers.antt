use Rattle.fax_laws.proofs.delivery.Whole as lemmas
use Rattle.fax_laws.proofs.delivery.laws.pages_get_through.Goals as goal

pub returns : goal.returns
returns c = lemmas.pages_get_through
