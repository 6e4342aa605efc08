use Rattle.std.proofs.Common.{rules}
use Rattle.fax_config.specs.declared.keys.Level.TheVariants as levels
use Rattle.fax_config.proofs.trunks.reach_of.Goals as goal

pub returns-in_err-name-clause-fault : goal.returns-in_err-name-clause-fault
returns-in_err-name-clause-fault c = let here = c.in_err-name.ensures.fault levels.Trunk in search rules

pub returns-in_err-address-clause-fault : goal.returns-in_err-address-clause-fault
returns-in_err-address-clause-fault c = let here = c.in_err-address.ensures.fault levels.Trunk in search rules

pub returns-in_err-allow-clause-fault : goal.returns-in_err-allow-clause-fault
returns-in_err-allow-clause-fault c = let here = c.in_err-allow.ensures.fault levels.Trunk in search rules
