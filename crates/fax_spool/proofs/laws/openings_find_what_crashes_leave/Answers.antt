use Rattle.fax_spool.proofs.Reopening.{openings_find_what_crashes_leave}
use Rattle.fax_spool.proofs.laws.openings_find_what_crashes_leave.Goals as goal

pub returns : goal.returns
returns g c = openings_find_what_crashes_leave _ _ _
