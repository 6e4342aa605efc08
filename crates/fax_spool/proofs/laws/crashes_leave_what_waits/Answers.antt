use Rattle.fax_spool.proofs.Reopening.{crashes_leave_what_waits}
use Rattle.fax_spool.proofs.laws.crashes_leave_what_waits.Goals as goal

pub returns : goal.returns
returns g c = crashes_leave_what_waits _ _ _
