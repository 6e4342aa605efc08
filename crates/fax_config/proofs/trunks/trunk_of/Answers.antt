use Rattle.std.proofs.Common.{rules}
use Rattle.fax_config.specs.declared.keys.Level.TheVariants as levels
use Rattle.fax_config.proofs.trunks.trunk_of.Goals as goal

pub returns-in_err-call_with-clause-fault : goal.returns-in_err-call_with-clause-fault
returns-in_err-call_with-clause-fault c = let here = c.in_err-call_with.ensures.fault levels.Trunk in search rules

pub returns-in_err-calls-clause-fault : goal.returns-in_err-calls-clause-fault
returns-in_err-calls-clause-fault c = let here = c.in_err-calls.ensures.fault levels.Trunk in search rules
