use Rattle.fax_redial.proofs.Redialling.{told_some, turns_some}
use Rattle.fax_redial.proofs.redials.turn_one.Goals as goal

pub returns-in-Some-clause-turns : goal.returns-in-Some-clause-turns
returns-in-Some-clause-turns g c = turns_some c.args.now c.args.cause c.args.held.now c.in-Some.held c.turn_held.new.held c.in-Some.is c.turn_held.ensures.turns

pub returns-in-Some-clause-told : goal.returns-in-Some-clause-told
returns-in-Some-clause-told g c = told_some c.args.held.now c.in-Some.held c.turn_held.new.held c.turn_held.result c.in-Some.is c.turn_held.ensures.told
