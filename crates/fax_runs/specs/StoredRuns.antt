-- A whole run of a server whose pages are stored on a disk (this project's profile).
use Rattle.std.specs.Prelude.{◌≡◌, ℕ, Bool, List}
use Rattle.fax_config.specs.declared.config.LineConfig.{LineConfig}
use Rattle.fax_line.specs.StoredRuns.{IsRun}
use Rattle.fax_line.specs.Places.{PlaceValue}
use Rattle.fax_line.specs.Runs.{AreServed, DoneOrder, none_waits}
use Rattle.fax_line.specs.declared.settling.LineReport.{LineReport}
use Rattle.fax_line.specs.declared.settling.PageToStore.{PageToStore}
use Rattle.fax_line.specs.declared.settling.PutResult.{PutResult}
use Rattle.fax_spool.specs.RecordOctets as spool
use Rattle.fax_spool.specs.declared.opening.OpenedSpool.{OpenedSpool}
use Rattle.fax_spool.specs.Opened.{IsOpened}
use Rattle.fax_spool.specs.Spools.{AreClean, files_of}
use Rattle.fax_spool.specs.declared.spool.Spool.{Spool}
use Rattle.fax_queue.specs.Restorations.{whole_pages}
use Rattle.fax_queue.specs.Queues.{QueueValue}
use Rattle.fax_runs.specs.Desking.{WordsAreDone}
use Rattle.fax_opening.specs.Openings.{AreRestored}

-- A run went on from these lines and this store, with slot 0 first: a line that confirmed a page in its turn, or a job of which ended, did
-- nothing more until that was stored. The pages of all such lines were put at once, and what confirms them went out where the answer was
-- Ok (`IsSettled`). What lines were asked is what words ordered.
pub record RunIsStored {K : Type 0} (same : K → K → Type 0)
    (puts : List PageToStore → Bool → K → K → Type 0) (notes : ℕ → ℕ → K → K → Type 0)
    (ends : List LineReport → K → K → Type 0) (begun : List PlaceValue) (before : K) : Type 0 where
  pub left : List PlaceValue
  pub after : K
  pub done : List DoneOrder
  pub settled : List PutResult
  pub served : AreServed 0 done none_waits
  pub words : WordsAreDone done
  pub ran : IsRun same puts notes ends done settled begun left before after

-- A SERVER WITH A SPOOL RAN: the spool was opened, each line began with the pages of its own that waited in it, but for calls that lack a
-- page, and its queue with just these; and so they went on.
pub record ServedStored {D K : Type 0} (same : K → K → Type 0)
    (puts : List PageToStore → Bool → K → K → Type 0)
    (notes : ℕ → ℕ → K → K → Type 0) (ends : List LineReport → K → K → Type 0) (spool_of : K → Spool D)
    (queues_of : K → List QueueValue) (configs : List LineConfig) : Type 0 where
  pub opened : OpenedSpool D
  pub begun : List PlaceValue
  pub store : K
  pub spool_is : spool_of store ≡ opened.spool
  pub restored :
      AreRestored (whole_pages opened.torn.items opened.pages.items) configs begun (queues_of store)
  pub run : RunIsStored same puts notes ends begun store

-- the same, and this was its spool as it was opened
pub record ServedWith {D K : Type 0} (same : K → K → Type 0)
    (puts : List PageToStore → Bool → K → K → Type 0) (notes : ℕ → ℕ → K → K → Type 0)
    (ends : List LineReport → K → K → Type 0) (spool_of : K → Spool D) (queues_of : K → List QueueValue)
    (configs : List LineConfig) (opened : OpenedSpool D) : Type 0 where
  pub served : ServedStored same puts notes ends spool_of queues_of configs
  pub is : served.opened ≡ opened

-- A SERVER RAN OVER THESE FILES: it ran, and the spool that it opened was opened over two files that held this, where no wrong answer of
-- either was taken as true.
pub record ServedOver {D K : Type 0} (seen : D → List ℕ)
    (may_leave : D → List ℕ → Type 0) (is_usable is_clean : D → Bool) (same : K → K → Type 0)
    (puts : List PageToStore → Bool → K → K → Type 0) (notes : ℕ → ℕ → K → K → Type 0)
    (ends : List LineReport → K → K → Type 0) (spool_of : K → Spool D) (queues_of : K → List QueueValue)
    (one other : List ℕ) (configs : List LineConfig) : Type 0 where
  pub served : ServedStored same puts notes ends spool_of queues_of configs
  pub over : AreClean is_clean (files_of served.opened.spool)
      → IsOpened seen may_leave is_usable one other served.opened
