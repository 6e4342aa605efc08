use Rattle.fax_laws.proofs.chains.Times as lemmas
use Rattle.fax_laws.proofs.chains.laws.timely_are_near.Goals as goal

pub returns : goal.returns
returns c = lemmas.timely_are_near c.datagrams_are_apart.ensures
