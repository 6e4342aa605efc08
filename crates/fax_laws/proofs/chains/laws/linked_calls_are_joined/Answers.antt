use Rattle.fax_laws.proofs.chains.Links as lemmas
use Rattle.fax_laws.proofs.chains.laws.linked_calls_are_joined.Goals as goal

pub returns : goal.returns
returns c = lemmas.linked_calls_are_joined
