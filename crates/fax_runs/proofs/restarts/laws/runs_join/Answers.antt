use Rattle.fax_runs.proofs.restarts.Crossings.{runs_join}
use Rattle.fax_runs.proofs.restarts.laws.runs_join.Goals as goal

pub returns : goal.returns
returns c = runs_join c.new_spools_tell_none.ensures c.stopped_openings_leave_what_waits.ensures
