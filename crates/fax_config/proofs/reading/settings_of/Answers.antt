use Rattle.std.proofs.Common.{rules}
use Rattle.fax_config.specs.declared.keys.Level.TheVariants as levels
use Rattle.fax_config.proofs.reading.settings_of.Goals as goal

pub returns-in_err-name-clause-fault : goal.returns-in_err-name-clause-fault
returns-in_err-name-clause-fault c = let here = c.in_err-name.ensures.fault levels.Line in search rules

pub returns-in_err-redundancy-clause-fault : goal.returns-in_err-redundancy-clause-fault
returns-in_err-redundancy-clause-fault c = let here = c.in_err-redundancy.ensures.fault levels.Line in search rules

pub returns-in_err-preamble_ms-clause-fault : goal.returns-in_err-preamble_ms-clause-fault
returns-in_err-preamble_ms-clause-fault c = let here = c.in_err-preamble_ms.ensures.fault levels.Line in search rules

pub returns-in_err-repeat-clause-fault : goal.returns-in_err-repeat-clause-fault
returns-in_err-repeat-clause-fault c = let here = c.in_err-repeat.ensures.fault levels.Line in search rules

pub returns-in_err-dial_seconds-clause-fault : goal.returns-in_err-dial_seconds-clause-fault
returns-in_err-dial_seconds-clause-fault c = let here = c.in_err-dial_seconds.ensures.fault levels.Line in search rules

pub returns-in_err-line_memory-clause-fault : goal.returns-in_err-line_memory-clause-fault
returns-in_err-line_memory-clause-fault c = let here = c.in_err-line_memory.ensures.fault levels.Line in search rules

pub returns-in_err-most_waiting-clause-fault : goal.returns-in_err-most_waiting-clause-fault
returns-in_err-most_waiting-clause-fault c = let here = c.in_err-most_waiting.ensures.fault levels.Line in search rules
