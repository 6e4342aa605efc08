use Rattle.fax_trunks.proofs.SlowHostProofs.{failure_is_remembered, failure_keeps_others}
use Rattle.fax_trunks.proofs.laws.a_failure_is_remembered.Goals as goal

pub returns-clause-failure : goal.returns-clause-failure
returns-clause-failure c = failure_is_remembered

pub returns-clause-others : goal.returns-clause-others
returns-clause-others c = failure_keeps_others
