-- WHAT THERE WAS OF A RUN, for a line of it. (This project's profile.)
use Rattle.std.specs.Prelude.{◌≡◌, ◌≢◌, ℕ, Bool, List, [], length, map, Some, slice_get}
use Rattle.fax_call.specs.Writings.{Writing}
use Rattle.fax_gateway.specs.Restored.{CallPage, call_shown}
use Rattle.fax_gateway.specs.Setups.{AreSetWith, Setup}
use Rattle.fax_gateway.specs.Reached.{IsReachedBy}
use Rattle.fax_gateway.specs.Lives.{Life}
use Rattle.fax_wires.specs.holding.Storing as hold
use Rattle.fax_wires.specs.holding.Storing.{HasDone}
use Rattle.fax_line.specs.Actions.{BeginsWith}
use Rattle.fax_line.specs.Places.{PlaceValue}
use Rattle.fax_line.specs.Runs.{DoneOrder}
use Rattle.fax_line.specs.StoredRuns.{stored_pages}
use Rattle.fax_line.specs.declared.settling.PutResult.{PutResult}
use Rattle.fax_spool.specs.declared.opening.OpenedSpool.{OpenedSpool}
use Rattle.fax_spool.specs.declared.spool.Spool.{Spool}
use Rattle.fax_queue.specs.Queues.{QueueValue}
use Rattle.fax_queue.specs.Restorations.{Restores}
use Rattle.fax_queue.specs.declared.restored.RestoredLine.{RestoredLine}
use Rattle.fax_queue.specs.OnLeg.{AreOnLeg}
use Rattle.fax_queue.specs.Histories.{AreStoredOf, RanOnDisk}

-- What there was of a run: the spool that was opened, the number of the line in it, the setup of its gateway, what was done, and the
-- lines and what has the queues and the spool, before it and after it.
pub record OneRun (D K : Type 0) : Type 0 where
  pub opened : OpenedSpool D
  pub number : ℕ
  pub setup : Setup
  pub done : List DoneOrder
  pub settled : List PutResult
  pub begun : List PlaceValue
  pub left : List PlaceValue
  pub before : K
  pub after : K

-- It ran: from the spool that was opened, with the line restored with those of its own pages that were told, and its queue with just
-- these. Its wire held nothing back. No other line had its name.
pub record WasRun {D K : Type 0} (seen : D → List ℕ)
    (may_leave : D → List ℕ → Type 0) (is_usable : D → Bool) (queues_of : K → List QueueValue)
    (spool_of : K → Spool D) (line : List ℕ) (run : OneRun D K) : Type 0 where
  pub spool_is : spool_of run.before ≡ run.opened.spool
  pub restored : RestoredLine
  pub restores : Restores line run.opened.pages.items restored
  pub place : PlaceValue
  pub there : slice_get run.begun run.number ≡ Some place
  pub begins : BeginsWith (map call_shown restored.calls.items) place.line
  pub fresh : HasDone [] place.line.holding
  pub set : AreSetWith run.setup place.line.gateway.settings (map call_shown restored.calls.items)
  pub queued : slice_get (queues_of run.before) run.number ≡ Some restored.queue
  pub as_many : length (queues_of run.before) ≡ length run.begun
  pub alone : (other : ℕ) (queue : QueueValue)
      → slice_get (queues_of run.before) other ≡ Some queue → other ≢ run.number → queue.line ≢ line
  pub ran : RanOnDisk seen may_leave is_usable
      queues_of spool_of run.done run.settled run.begun run.left run.before run.after

-- what there was of it, whatever its files are of: the number of the line, the setup of its gateway, what was stored each time, and the
-- lines after it
pub record RunTold : Type 0 where
  pub number : ℕ
  pub setup : Setup
  pub settled : List PutResult
  pub left : List PlaceValue

abbrev pub told_of : {D K : Type 0} → OneRun D K → RunTold
told_of run =
    record { number = run.number; setup = run.setup; settled = run.settled; left = run.left }

-- A RUN IS THIS LIFE of the line's gateway, in which these pages were put with an `Ok`; and its wire let out on the calling leg what the
-- ticks of that life gave, but where a page was not put.
pub record IsLifeOf (writes : Writing) (run : RunTold) (life : Life) (kept : List CallPage) :
    Type 0 where
  pub setup : life.setup ≡ run.setup
  pub place : PlaceValue
  pub there : slice_get run.left run.number ≡ Some place
  pub reached : IsReachedBy life.setup writes life.trace place.line.gateway
  pub are_stored : AreStoredOf run.number (stored_pages run.settled) kept
  pub leg : List hold.LegAction
  pub did : HasDone leg place.line.holding
  pub on_leg : AreOnLeg life.setup leg life.trace kept
