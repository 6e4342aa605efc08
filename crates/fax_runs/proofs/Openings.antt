-- A server that ran with its spool open ran over the files that this was opened over.
use Rattle.std.proofs.Common.{ℕ, Bool, List, Result, Ok, Err, OnOk, sym, subst}
use Rattle.fax_config.specs.declared.config.LineConfig.{LineConfig}
use Rattle.fax_line.specs.declared.settling.LineReport.{LineReport}
use Rattle.fax_line.specs.declared.settling.PageToStore.{PageToStore}
use Rattle.fax_spool.specs.declared.opening.OpenedSpool.{OpenedSpool}
use Rattle.fax_spool.specs.Opened.{IsOpened}
use Rattle.fax_spool.specs.Spools.{AreClean, files_of}
use Rattle.fax_spool.specs.declared.spool.Spool.{Spool}
use Rattle.fax_queue.specs.Queues.{QueueValue}
use Rattle.fax_runs.specs.StoredRuns.{ServedOver, ServedWith}

module _ {D K T E : Type 0} (seen : D → List ℕ) (may_leave : D → List ℕ → Type 0) (is_usable is_clean : D → Bool) (same : K → K → Type 0) (puts : List PageToStore → Bool → K → K → Type 0) (notes : ℕ → ℕ → K → K → Type 0) (ends : List LineReport → K → K → Type 0) (spool_of : K → Spool D) (queues_of : K → List QueueValue) (one other : List ℕ) (configs : List LineConfig) (opened : OpenedSpool D) where
  pub over_these :
      (result : Result T E)
      → OnOk result (ServedWith same puts notes ends spool_of queues_of configs opened)
      → (AreClean is_clean (files_of opened.spool) → IsOpened seen may_leave is_usable one other opened)
      → OnOk result (ServedOver seen may_leave is_usable is_clean same puts notes ends spool_of queues_of one other configs)
  over_these (Err fault) with over = tt
  over_these (Ok end) with over = record {
    served = with.served;
    over = subst (λ (o : OpenedSpool D). AreClean is_clean (files_of o.spool) → IsOpened seen may_leave is_usable one other o) (sym with.is) over;
  }
