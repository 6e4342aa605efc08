use Rattle.fax_config.specs.declared.keys.Level.TheVariants as levels
use Rattle.fax_config.proofs.retry.retry_of.Goals as goal

pub returns-in-Err-clause-fault : goal.returns-in-Err-clause-fault
returns-in-Err-clause-fault c = c.in-Err.ensures.fault levels.Top
