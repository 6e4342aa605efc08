use Rattle.fax_queue.proofs.Openings.{openings_find_what_waits}
use Rattle.fax_queue.proofs.laws.histories.openings_find_what_waits.Goals as goal

pub returns : goal.returns
returns g c = openings_find_what_waits _ _ _ c.openings_find_what_crashes_leave.ensures
