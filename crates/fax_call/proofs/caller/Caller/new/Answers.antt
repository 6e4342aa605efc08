use Rattle.fax_call.proofs.caller.Caller.new.Goals as goal

pub returns-clause-reached : goal.returns-clause-reached
returns-clause-reached c writes job = record { tracked = c.new.ensures; follows = c.new-2.ensures.follows writes job _ }
