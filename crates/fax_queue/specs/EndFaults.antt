-- WHY THE END OF A JOB IS NOT NOTED. (This project's profile.)
use Rattle.std.specs.Prelude.{◌≡◌, ◌⊎◌, ℕ, ◌<◌, false, List, length, take, MatchOption, slice_get}
use Rattle.fax_spool.specs.Calls.{Accepts, Refuses}
use Rattle.fax_spool.specs.declared.spool.Spool.{Spool}
use Rattle.fax_queue.specs.declared.end_fault.EndFault.{EndFault}
use Rattle.fax_queue.specs.declared.end_fault.EndFault.TheVariants as faults
use Rattle.fax_queue.specs.Queues.{IsFirstJob, QueueValue, stored_count}

-- What each fault says of the line's queue as it was, and of the spool as it is now: of memory only that the spool does not refuse, and of pages that could
-- not be kept elsewhere nothing.
abbrev pub IsWhy : {D : Type 0}
    → EndFault → (pages : ℕ) → (was : QueueValue) → (now : Spool D) → Type 0
IsWhy faults.NoLine pages was now = ⊥
IsWhy faults.Unsure pages was now = (was.is_whole ≡ false) ⊎ (¬ IsFirstJob pages was.waits)
IsWhy faults.NoneThere pages was now = stored_count (take pages was.waits) ≡ 0
IsWhy faults.LongName pages was now = 255 < length was.line
IsWhy faults.NoMemory pages was now = Accepts now
IsWhy faults.DiskFailed pages was now = Refuses now
IsWhy faults.NotStored pages was now = Unit {0}

-- the same of the line at this place, where there is one
abbrev pub IsWhyAt : {D : Type 0}
    → EndFault → (pages place : ℕ) → (were : List QueueValue) → (now : Spool D) → Type 0
IsWhyAt fault pages place were now =
    MatchOption (slice_get were place) (fault ≡ faults.NoLine) (λ was. IsWhy fault pages was now)
