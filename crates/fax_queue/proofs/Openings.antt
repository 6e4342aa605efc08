-- What an opening finds.
use Rattle.std.proofs.Common.{ℕ, Bool, List}
use Rattle.fax_spool.specs.Opened.{OpeningsFindWhatCrashesLeave}
use Rattle.fax_queue.specs.Histories.{OpeningsFindWhatWaits}

pub openings_find_what_waits :
    {D : Type 0} (seen : D → List ℕ) (may_leave : D → List ℕ → Type 0) (is_usable : D → Bool)
    → OpeningsFindWhatCrashesLeave seen may_leave is_usable → OpeningsFindWhatWaits seen may_leave is_usable
openings_find_what_waits seen may_leave is_usable find older newer one other pages opened tell both is =
    let found = find older newer one other pages opened tell both is in record { wait = found.0; told = found.1 }
