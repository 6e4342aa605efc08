use Rattle.fax_spool.proofs.Reopening.{stopped_openings_leave_what_waits}
use Rattle.fax_spool.proofs.laws.stopped_openings_leave_what_waits.Goals as goal

pub returns : goal.returns
returns c = stopped_openings_leave_what_waits
