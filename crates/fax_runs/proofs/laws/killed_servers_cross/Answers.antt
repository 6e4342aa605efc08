use Rattle.fax_undelivered.proofs.Alone.{stored_ends}
use Rattle.fax_runs.proofs.Crossings.{killed_servers_cross}
use Rattle.fax_runs.proofs.laws.killed_servers_cross.Goals as goal

pub returns : goal.returns
returns g c =
    killed_servers_cross _ _ _ _ (λ k. k.storage.queues.items) (λ k. k.storage.spool) _ _ _ _
    (record { unchanged = λ old new is. is; put = λ pages is_stored old new is. is; noted = λ line call old new is. is; ended = λ ended old new is. stored_ends _ _ _ _ _ _ _ _ ended _ _ _ _ _ _ is })
    c.whole_lines_are_restored.ensures c.killed_runs_cross.ensures.crosses
