use Rattle.fax_runs.proofs.restarts.Crossings.{runs_cross}
use Rattle.fax_runs.proofs.restarts.laws.runs_cross.Goals as goal

pub returns : goal.returns
returns g c = runs_cross _ _ _ _ _ c.openings_find_what_waits.ensures c.runs_make_history.ensures c.crashes_leave_what_waits.ensures
