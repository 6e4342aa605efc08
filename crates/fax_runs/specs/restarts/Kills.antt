-- A RUN WHOSE PROCESS WAS KILLED between two of its orders: it had done the earlier ones, and nothing after them. (Where it is killed
-- within an order, or while lines wait, the calls of the disk from there on are as ones that answer an `Err`, and change nothing: so that
-- is a run too.) Lists of orders, and of what was stored each time, have the newest first. (This project's profile.)
use Rattle.std.specs.Prelude.{◌≡◌, ℕ, Bool, List, ◌++◌}
use Rattle.fax_call.specs.Writings.{IsWriting, Writing}
use Rattle.fax_gateway.specs.Restored.{CallPage}
use Rattle.fax_gateway.specs.Lives.{Life}
use Rattle.fax_line.specs.Runs.{DoneOrder}
use Rattle.fax_line.specs.declared.settling.PutResult.{PutResult}
use Rattle.fax_spool.specs.Opened.{AreBoth, IsOpened}
use Rattle.fax_spool.specs.declared.spool.Spool.{Spool}
use Rattle.fax_queue.specs.Queues.{QueueValue}
use Rattle.fax_runs.specs.restarts.Crossings.{HasPastOver, LeavesOver}
use Rattle.fax_runs.specs.restarts.Runs.{OneRun, WasRun}

-- What there was of a run as it was killed: it began so, and of its orders these were done.
pub record IsCut {D K : Type 0} (run : OneRun D K) (earlier : List DoneOrder) (cut : OneRun D K) :
    Type 0 where
  pub opened : cut.opened ≡ run.opened
  pub number : cut.number ≡ run.number
  pub setup : cut.setup ≡ run.setup
  pub begun : cut.begun ≡ run.begun
  pub before : cut.before ≡ run.before
  pub done : cut.done ≡ earlier
  pub ends : List PutResult
  pub settled : run.settled ≡ ends ++ cut.settled

-- RUNS CAN BE CUT ANYWHERE: after each of its orders there was a run, which is what had been done so far.
abbrev pub RunsCanBeCut : {D K : Type 0} → (D → List ℕ)
    → (D → List ℕ → Type 0) → (D → Bool) → (K → List QueueValue) → (K → Spool D) → Type 0
RunsCanBeCut {D} {K} seen may_leave is_usable queues_of spool_of =
    (line : List ℕ) (run : OneRun D K) (later earlier : List DoneOrder)
    → WasRun seen may_leave is_usable queues_of spool_of line run
    → run.done ≡ later ++ earlier → (cut : OneRun D K)
    × IsCut run earlier cut × WasRun seen may_leave is_usable queues_of spool_of line cut

-- KILLED RUNS LEAD FROM FILES TO FILES: after whichever of its orders the process of a run was killed, of a line that had a past over its
-- files there is one life more over whatever the crash leaves of them.
abbrev pub KilledRunsCross : {D K : Type 0} → (D → List ℕ)
    → (D → List ℕ → Type 0) → (D → Bool) → (K → List QueueValue) → (K → Spool D) → Type 0
KilledRunsCross {D} {K} seen may_leave is_usable queues_of spool_of =
    (writes : Writing) (line : List ℕ) (lives : List Life) (puts : List CallPage)
    (older newer one other : List ℕ) (run : OneRun D K) (later earlier : List DoneOrder)
    → IsWriting writes → HasPastOver writes line lives puts older newer
    → AreBoth older newer one other → IsOpened seen may_leave is_usable one other run.opened
    → WasRun seen may_leave is_usable queues_of spool_of line run
    → run.done ≡ later ++ earlier → (cut : OneRun D K)
    × IsCut run earlier cut × LeavesOver may_leave spool_of writes line lives puts cut
