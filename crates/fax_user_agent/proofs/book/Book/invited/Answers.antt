use Rattle.std.proofs.lemmas.Result.{IfOk-at_ok}
use Rattle.fax_user_agent.specs.Events.{IsRouted}
use Rattle.fax_user_agent.proofs.book.Book.invited.Goals as goal

-- the route is that of its number
pub returns-in-Ok : goal.returns-in-Ok
returns-in-Ok c = λ calls. c.open.ensures c.args.profile.now.routes.items calls (IfOk-at_ok (λ wanted. IsRouted c.args.profile.now.routes.items c.args.incoming.now.uri.now wanted.route) c.in-Ok.is c.wanted_of.ensures)
