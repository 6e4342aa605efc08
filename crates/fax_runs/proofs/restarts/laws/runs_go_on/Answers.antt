use Rattle.fax_runs.proofs.restarts.Crossings.{runs_go_on, runs_lead}
use Rattle.fax_runs.proofs.restarts.laws.runs_go_on.Goals as goal

pub returns-clause-leads : goal.returns-clause-leads
returns-clause-leads g c = runs_lead _ _ _ _ _ c.runs_cross.ensures

pub returns-clause-goes_on : goal.returns-clause-goes_on
returns-clause-goes_on g c = runs_go_on _ _ _ _ _ c.runs_join.ensures c.runs_cross.ensures
