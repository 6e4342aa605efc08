use Rattle.std.proofs.Common.{rules}
use Rattle.fax_config.specs.declared.keys.Level.TheVariants as levels
use Rattle.fax_config.proofs.reading.leg_of.Goals as goal

pub returns-in_err-local-clause-fault : goal.returns-in_err-local-clause-fault
returns-in_err-local-clause-fault c = let here = c.in_err-local.ensures.fault levels.Leg in search rules

pub returns-in_err-peer-clause-fault : goal.returns-in_err-peer-clause-fault
returns-in_err-peer-clause-fault c = let here = c.in_err-peer.ensures.fault levels.Leg in search rules
