use Rattle.fax_laws.proofs.delivery.WholeLegs as lemmas
use Rattle.fax_laws.proofs.delivery.laws.datagrams_get_through.Goals as goal

pub returns : goal.returns
returns c = lemmas.datagrams_get_through
