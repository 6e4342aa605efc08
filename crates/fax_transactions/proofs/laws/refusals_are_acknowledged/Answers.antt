use Rattle.fax_transactions.proofs.ClientInviteProofs.{nothing_else_is_acknowledged, refusals_are_acknowledged}
use Rattle.fax_transactions.proofs.laws.refusals_are_acknowledged.Goals as goal

pub returns-clause-each : goal.returns-clause-each
returns-clause-each c = refusals_are_acknowledged

pub returns-clause-alone : goal.returns-clause-alone
returns-clause-alone c = nothing_else_is_acknowledged
