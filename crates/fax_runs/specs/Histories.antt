-- What a run of a server leaves of each line, whatever crash follows. (This project's profile.)
use Rattle.std.specs.Prelude.{ℕ, Bool, List}
use Rattle.fax_line.specs.declared.settling.LineReport.{LineReport}
use Rattle.fax_line.specs.declared.settling.PageToStore.{PageToStore}
use Rattle.fax_spool.specs.RecordOctets as spool
use Rattle.fax_spool.specs.declared.spool.Spool.{Spool}
use Rattle.fax_queue.specs.Queues.{QueueValue}
use Rattle.fax_queue.specs.SpoolStorage.{EndsJobs, IsUnchanged, NotesPage, PutsPages}

-- A STORE KEEPS WHAT IT KEEPS ON A DISK: what a run makes of it makes this of its queues and of its spool, and maybe more beside them.
pub record IsOnDisk {D K : Type 0} (seen : D → List ℕ) (may_leave : D → List ℕ → Type 0)
    (is_usable : D → Bool) (queues_of : K → List QueueValue) (spool_of : K → Spool D)
    (same : K → K → Type 0) (stores : List PageToStore → Bool → K → K → Type 0)
    (notes : ℕ → ℕ → K → K → Type 0) (ends : List LineReport → K → K → Type 0) : Type 0 where
  pub unchanged : (old new : K)
      → same old new → IsUnchanged (queues_of old) (queues_of new) (spool_of old) (spool_of new)
  pub put : (pages : List PageToStore) (is_stored : Bool) (old new : K)
      → stores pages is_stored old new
      → PutsPages seen may_leave is_usable pages is_stored (queues_of old)
      (queues_of new) (spool_of old) (spool_of new)
  pub noted : (line call : ℕ) (old new : K) → notes line call old new
      → NotesPage line call (queues_of old) (queues_of new) (spool_of old) (spool_of new)
  pub ended : (ended : List LineReport) (old new : K)
      → ends ended old new → EndsJobs seen may_leave is_usable ended (queues_of old)
      (queues_of new) (spool_of old) (spool_of new)
