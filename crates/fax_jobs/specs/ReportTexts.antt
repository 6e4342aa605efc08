-- How a report is printed. (This project's profile.)
use Rattle.std.specs.Prelude.{ℕ, Bool, true, false, List, [], ◌∷◌, codes, decimal}
use Rattle.std.specs.List.{join_with_byte}
use Rattle.fax_runcodes.specs.Widths.{elements_of}
use Rattle.fax_jobs.specs.Outcomes.{outcome_name}
use Rattle.fax_jobs.specs.declared.report.Report.{Report}

abbrev pub resolution_name : (fine : Bool) → List ℕ
resolution_name true = codes "fine"
resolution_name false = codes "standard"

-- the word `job`, the call, the width in elements and the resolution, how many pages, how many were delivered, and how it ended
abbrev pub report_text : Report → List ℕ
report_text report = join_with_byte 32 (codes "job" ∷ decimal report.call
    ∷ decimal (elements_of report.format.width) ∷ resolution_name report.format.fine
    ∷ decimal report.pages ∷ decimal report.delivered ∷ outcome_name report.outcome ∷ [])
