use Rattle.fax_trunks.proofs.SlowHostProofs.{success_is_forgotten, success_keeps_others}
use Rattle.fax_trunks.proofs.laws.a_success_is_forgotten.Goals as goal

pub returns-clause-success : goal.returns-clause-success
returns-clause-success c = success_is_forgotten

pub returns-clause-others : goal.returns-clause-others
returns-clause-others c = success_keeps_others
