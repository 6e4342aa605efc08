-- TOLD: the lines that `faxgate trace` prints. (This project's profile.)
use Rattle.std.specs.Prelude.{ℕ, List, [], ◌∷◌, ◌++◌, codes, decimal, Option, Some, None}
use Rattle.hex.specs.Hex.{encode_lower}
use Rattle.fax_jobs.specs.ReportTexts.{report_text}
use Rattle.fax_jobs.specs.declared.report.Report.{Report}
use Rattle.fax_gateway.specs.Events.{Event, Ring, FromCalling, FromCalled, Tick, Placed, Given}

-- the line of a datagram that a tick gives, where it gives one
abbrev pub datagram_lines : List ℕ → Option (List ℕ) → List (List ℕ)
datagram_lines letter None = []
datagram_lines letter (Some octets) = (letter ++ encode_lower octets) ∷ []

-- the line of a job that ended, where one did
abbrev pub job_lines : Option Report → List (List ℕ)
job_lines None = []
job_lines (Some report) = report_text report ∷ []

-- what a tick gives: on the calling leg, on the called leg, and the report of the job that ended, in this order
abbrev pub given_lines : Given → List (List ℕ)
given_lines given = datagram_lines (codes "a ") given.on_calling
    ++ (datagram_lines (codes "b ") given.on_called ++ job_lines given.report)

-- the line of a call that is asked for, where one is
abbrev pub asked_lines : Option ℕ → List (List ℕ)
asked_lines None = []
asked_lines (Some call) = (codes "asks " ++ decimal call) ∷ []

-- the lines of what a gateway answers to an accepted event
abbrev pub lines_told : Event → List (List ℕ)
lines_told (Ring now number) = (codes "ring " ++ decimal number) ∷ []
lines_told (FromCalling octets now decided read) = []
lines_told (FromCalled octets now decided) = []
lines_told (Tick now given) = given_lines given
lines_told (Placed now connected) = []
