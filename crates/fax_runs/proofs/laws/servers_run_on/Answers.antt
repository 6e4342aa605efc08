use Rattle.fax_runs.proofs.Crossings.{servers_lead, servers_run_on}
use Rattle.fax_runs.proofs.laws.servers_run_on.Goals as goal

pub returns-clause-leads : goal.returns-clause-leads
returns-clause-leads g c = servers_lead _ _ _ _ (λ k. k.storage.queues.items) (λ k. k.storage.spool) _ _ _ _ c.servers_cross.ensures

pub returns-clause-goes_on : goal.returns-clause-goes_on
returns-clause-goes_on g c = servers_run_on _ _ _ _ (λ k. k.storage.queues.items) (λ k. k.storage.spool) _ _ _ _ c.runs_join.ensures c.servers_cross.ensures
