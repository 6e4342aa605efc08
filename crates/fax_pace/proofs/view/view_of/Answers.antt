use Rattle.fax_pace.proofs.Seeing.{seen_as}
use Rattle.fax_pace.proofs.view.view_of.Goals as goal

pub returns : goal.returns
returns g c = seen_as c.args.line.now c.args.first c.args.has_failed c.call.result c.sending.result c.asked.result c.leg_view.result c.leg_view-2.result c.call.ensures c.sending.ensures c.asked.ensures c.leg_view.ensures c.leg_view-2.ensures
