use Rattle.fax_laws.proofs.chains.Given.{calls_give_their_packets, none_before}
use Rattle.fax_laws.proofs.chains.laws.calls_give_their_packets.Goals as goal

pub returns-clause-each : goal.returns-clause-each
returns-clause-each c = calls_give_their_packets

pub returns-clause-before : goal.returns-clause-before
returns-clause-before c = none_before
