use Rattle.std.proofs.Common.{rules}
use Rattle.fax_config.specs.declared.keys.Level.TheVariants as levels
use Rattle.fax_config.proofs.reading.top_of.Goals as goal

pub returns-in_err-stop_seconds-clause-fault : goal.returns-in_err-stop_seconds-clause-fault
returns-in_err-stop_seconds-clause-fault c = let here = c.in_err-stop_seconds.ensures.fault levels.Top in search rules

pub returns-in_err-path_at-clause-fault : goal.returns-in_err-path_at-clause-fault
returns-in_err-path_at-clause-fault c = let here = c.in_err-path_at.ensures.fault levels.Top in search rules

pub returns-in_err-path_at-2-clause-fault : goal.returns-in_err-path_at-2-clause-fault
returns-in_err-path_at-2-clause-fault c = let here = c.in_err-path_at-2.ensures.fault levels.Top in search rules

pub returns-in_err-http-clause-fault : goal.returns-in_err-http-clause-fault
returns-in_err-http-clause-fault c = let here = c.in_err-http.ensures.fault levels.Top in search rules

pub returns-in_err-memory-clause-fault : goal.returns-in_err-memory-clause-fault
returns-in_err-memory-clause-fault c = let here = c.in_err-memory.ensures.fault levels.Top in search rules
