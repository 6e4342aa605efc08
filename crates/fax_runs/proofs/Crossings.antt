-- Runs of a server, joined by what their files hold.
use Rattle.std.proofs.Common.{Bool, List, ℕ}
use Rattle.fax_line.specs.declared.settling.LineReport.{LineReport}
use Rattle.fax_line.specs.declared.settling.PageToStore.{PageToStore}
use Rattle.fax_spool.specs.declared.spool.Spool.{Spool}
use Rattle.fax_queue.specs.Restorations.{WholeLinesAreRestored}
use Rattle.fax_queue.specs.Queues.{QueueValue}
use Rattle.fax_runs.specs.restarts.Crossings.{HasLives, LeavesOver, RunsCross, RunsJoin}
use Rattle.fax_runs.specs.restarts.Kills.{KilledRunsCross}
use Rattle.fax_runs.specs.Crossings.{KilledServersCross, ServersCross, ServersLead, ServersRunOn, run_of}
use Rattle.fax_runs.specs.Histories.{IsOnDisk}
use Rattle.fax_runs.proofs.Histories.{was_run}

module _ {D K : Type 0} (seen : D → List ℕ) (may_leave : D → List ℕ → Type 0) (is_usable is_clean : D → Bool) (queues_of : K → List QueueValue) (spool_of : K → Spool D) (same : K → K → Type 0) (stores : List PageToStore → Bool → K → K → Type 0) (notes : ℕ → ℕ → K → K → Type 0) (ends : List LineReport → K → K → Type 0) where
  pub servers_cross : IsOnDisk seen may_leave is_usable queues_of spool_of same stores notes ends → WholeLinesAreRestored → RunsCross seen may_leave is_usable queues_of spool_of → ServersCross seen may_leave is_usable is_clean queues_of spool_of same stores notes ends
  servers_cross on_disk restore cross writes line lives puts older newer ran writing past is =
      cross writes line lives puts older newer is.one is.other (run_of ran) writing past is.both (is.over is.clean) (was_run seen may_leave is_usable queues_of spool_of same stores notes ends on_disk restore line ran)

  pub killed_servers_cross : IsOnDisk seen may_leave is_usable queues_of spool_of same stores notes ends → WholeLinesAreRestored → KilledRunsCross seen may_leave is_usable queues_of spool_of → KilledServersCross seen may_leave is_usable is_clean queues_of spool_of same stores notes ends
  killed_servers_cross on_disk restore cross writes line lives puts older newer ran later earlier writing past is done =
      cross writes line lives puts older newer is.one is.other (run_of ran) later earlier writing past is.both (is.over is.clean) (was_run seen may_leave is_usable queues_of spool_of same stores notes ends on_disk restore line ran) done

  pub servers_lead : ServersCross seen may_leave is_usable is_clean queues_of spool_of same stores notes ends → ServersLead seen may_leave is_usable is_clean queues_of spool_of same stores notes ends
  servers_lead cross writes line before after ran writing is left lives puts past =
      let over : LeavesOver may_leave spool_of writes line lives puts (run_of ran) = cross writes line lives puts before.older before.newer ran writing past is in
      (over.life, over.kept, over.is_life, over.left after.older after.newer left)

  pub servers_run_on : RunsJoin → ServersCross seen may_leave is_usable is_clean queues_of spool_of same stores notes ends → ServersRunOn seen may_leave is_usable is_clean queues_of spool_of same stores notes ends
  servers_run_on join cross writes line steps last ran writing joined is =
      let after : HasLives writes line steps last = join writes line steps last joined in
      record { after = after; leaves = cross writes line after.lives after.puts last.older last.newer ran writing after.past is }
