use Rattle.fax_runs.proofs.restarts.Crossings.{stopped}
use Rattle.fax_runs.proofs.restarts.laws.stopped_openings_leave_the_past.Goals as goal

pub returns : goal.returns
returns c = stopped c.stopped_openings_leave_what_waits.ensures
