-- What a call answers, told to C in numbers (this project's profile).
use Rattle.std.specs.Prelude.{ℕ, Result, Ok, Err}
use Rattle.fax_pagestore.specs.declared.fault.PageFault.{PageFault}
use Rattle.fax_pagestore.specs.declared.fault.PageFault.TheVariants as page
use Rattle.fax_pagestore.specs.FaultNumbers.{page_fault_number}
use Rattle.fax_c.specs.declared.outcome.FillCounts.{FillCounts}
use Rattle.fax_c.specs.declared.outcome.Refusal.{Refusal}
use Rattle.fax_c.specs.declared.outcome.Refusal.TheVariants.{Page, Room, Width, Runs, LeastBits}
use Rattle.fax_c.specs.declared.outcome.Outcome.{Outcome}

-- the line that cannot be read, and 0 where the fault names none
abbrev pub row_at_fault : PageFault → ℕ
row_at_fault (page.BadLine n) = n
row_at_fault fault = 0

-- status 0, how many rows, and how much of the slice was filled; or the number of what was wrong, and
-- the row at which it was, or how much room is wanted
abbrev pub told : Result FillCounts Refusal → Outcome
told (Ok filled) = record { status = 0; rows = filled.rows; filled = filled.items; wanted = 0 }
told (Err (Page fault)) =
    record { status = page_fault_number fault; rows = row_at_fault fault; filled = 0; wanted = 0 }
told (Err (Room n)) = record { status = 7; rows = 0; filled = 0; wanted = n }
told (Err Width) = record { status = 8; rows = 0; filled = 0; wanted = 0 }
told (Err (Runs n)) = record { status = 9; rows = n; filled = 0; wanted = 0 }
told (Err LeastBits) = record { status = 10; rows = 0; filled = 0; wanted = 0 }
