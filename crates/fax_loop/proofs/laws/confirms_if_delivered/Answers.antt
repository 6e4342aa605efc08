use Rattle.fax_loop.proofs.Delivers as lemmas
use Rattle.fax_loop.proofs.laws.confirms_if_delivered.Goals as goal

pub returns : goal.returns
returns c = lemmas.confirms_if_delivered c.jobs_have_states.ensures
