use Rattle.fax_spool.proofs.Reopening.{openings_leave_their_epoch}
use Rattle.fax_spool.proofs.laws.openings_leave_their_epoch.Goals as goal

pub returns : goal.returns
returns g c = openings_leave_their_epoch _ _ _
