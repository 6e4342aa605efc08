use Rattle.fax_laws.proofs.chains.Links as lemmas
use Rattle.fax_laws.proofs.chains.laws.few_are_near.Goals as goal

pub returns : goal.returns
returns c = lemmas.few_are_near
