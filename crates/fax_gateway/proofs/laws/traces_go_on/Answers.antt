use Rattle.fax_gateway.proofs.Going as lemmas
use Rattle.fax_gateway.proofs.laws.traces_go_on.Goals as goal

pub returns : goal.returns
returns c = lemmas.goes_on
