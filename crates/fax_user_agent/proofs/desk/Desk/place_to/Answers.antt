use Rattle.fax_user_agent.proofs.ChoiceLemmas.{is_placing}
use Rattle.fax_user_agent.proofs.desk.Desk.place_to.Goals as goal

pub returns-in-Some : goal.returns-in-Some
returns-in-Some c =
    is_placing c.args.profile.now.trunks.items c.args.profile.now.routes.items c.args.octets.now c.in-Some.placing.place c.in-Some.placing.trunk.now c.place.result c.in-Some.ensures.some c.place.ensures
