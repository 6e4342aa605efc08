use Rattle.fax_config.proofs.unlike.sip_unlike.Goals as goal

pub returns-clause-local : goal.returns-clause-local
returns-clause-local c = c.is_local.ensures c.if-is_local.false

pub returns-clause-audio : goal.returns-clause-audio
returns-clause-audio c = c.is_local-2.ensures c.if-is_local-2.false
