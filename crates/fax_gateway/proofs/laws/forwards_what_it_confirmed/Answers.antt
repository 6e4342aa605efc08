use Rattle.fax_gateway.proofs.Forwarding as lemmas
use Rattle.fax_gateway.proofs.laws.forwards_what_it_confirmed.Goals as goal

pub returns : goal.returns
returns c = lemmas.forwards
