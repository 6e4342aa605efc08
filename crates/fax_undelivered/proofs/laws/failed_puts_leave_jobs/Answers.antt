use Rattle.fax_undelivered.proofs.NotDropped.{failed_puts_leave_jobs}
use Rattle.fax_undelivered.proofs.laws.failed_puts_leave_jobs.Goals as goal

pub returns : goal.returns
returns g c = failed_puts_leave_jobs _ _ _ _ _ _ _
