use Rattle.fax_runs.proofs.restarts.Kills.{killed_runs_cross, runs_can_be_cut}
use Rattle.fax_runs.proofs.restarts.laws.killed_runs_cross.Goals as goal

pub returns-clause-cut : goal.returns-clause-cut
returns-clause-cut g c = runs_can_be_cut _ _ _ _ _

pub returns-clause-crosses : goal.returns-clause-crosses
returns-clause-crosses g c = killed_runs_cross _ _ _ _ _ c.runs_cross.ensures
