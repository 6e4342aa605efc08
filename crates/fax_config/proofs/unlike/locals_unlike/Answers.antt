use Rattle.fax_config.proofs.unlike.locals_unlike.Goals as goal

pub returns-clause-fault : goal.returns-clause-fault
returns-clause-fault c = λ members at also. (c.args.lines.now, c.args.redials.now, at, also)
