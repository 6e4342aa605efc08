use Rattle.fax_redial.proofs.Arriving.{delivered_tries_are_events}
use Rattle.fax_redial.proofs.laws.delivered_tries_are_events.Goals as goal

pub returns : goal.returns
returns g c = delivered_tries_are_events g.D.Disk.seen g.D.Disk.may_leave g.D.Disk.is_usable
