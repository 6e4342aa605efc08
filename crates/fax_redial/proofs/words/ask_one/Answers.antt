use Rattle.fax_redial.proofs.Redialling.{asks_some}
use Rattle.fax_redial.proofs.words.ask_one.Goals as goal

pub returns-in-Some : goal.returns-in-Some
returns-in-Some g c = asks_some c.args.now c.args.what c.ask.result c.args.held.now c.in-Some.held c.ask.new.self c.in-Some.is c.ask.ensures
