use Rattle.std.proofs.Common.{rules}
use Rattle.fax_config.specs.declared.keys.Level.TheVariants as levels
use Rattle.fax_config.proofs.sip_reading.head_in.Goals as goal

pub returns-in_err-local-clause-fault : goal.returns-in_err-local-clause-fault
returns-in_err-local-clause-fault c = let here = c.in_err-local.ensures.fault levels.Sip in search rules

pub returns-in_err-audio-clause-fault : goal.returns-in_err-audio-clause-fault
returns-in_err-audio-clause-fault c = let here = c.in_err-audio.ensures.fault levels.Sip in search rules

pub returns-in_err-ring_seconds-clause-fault : goal.returns-in_err-ring_seconds-clause-fault
returns-in_err-ring_seconds-clause-fault c = let here = c.in_err-ring_seconds.ensures.fault levels.Sip in search rules
