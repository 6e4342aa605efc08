-- The states of jobs: what was reported, what is being sent, what waits.
use Rattle.std.specs.Prelude.{◌≡◌, List, [], ◌∷◌, ◌++◌, Option, Some, None, if◌then◌else◌}
use Rattle.fax_jobs.specs.declared.report.Report.{Report}
use Rattle.fax_jobs.specs.Jobs.{JobValue}
use Rattle.fax_jobs.specs.Books.{last_of, kept_reports}
use Rattle.fax_jobs.specs.Pasts.{as_list, jobs_of, AreReported}
use Rattle.fax_call.specs.Writings.{Writing}
use Rattle.fax_gateway.specs.Setups.{Setup}
use Rattle.fax_gateway.specs.Events.{Event, Ring, FromCalling, FromCalled, Tick, Placed}
use Rattle.fax_gateway.specs.CalledLegs.{CalledLeg}
use Rattle.fax_gateway.specs.BothLegs.{past_of, book_of, both_legs}
use Rattle.fax_gateway.specs.Traces.{IsTrace}

-- the reports that the ticks gave, in the order of time
abbrev pub report_list : Option Report → List Report
report_list None = []
report_list (Some report) = report ∷ []

abbrev pub reports_given : List Event → List Report
reports_given [] = []
reports_given (Ring at number ∷ earlier) = reports_given earlier
reports_given (FromCalling octets at decided read ∷ earlier) = reports_given earlier
reports_given (FromCalled octets at decided ∷ earlier) = reports_given earlier
reports_given (Tick at given ∷ earlier) = reports_given earlier ++ report_list given.report
reports_given (Placed at connected ∷ earlier) = reports_given earlier

-- the job of the called leg's call, until its end was entered
abbrev pub job_sent : Option CalledLeg → Option JobValue
job_sent None = None
job_sent (Some l) = if l.entered then None else Some l.job

-- The jobs that were closed are, in their order: those that ended, each with one report that a tick gave, of its call, its
-- format and the number of its pages; the one whose call is on; those that wait. The book has the last 64 reports.
pub record HaveStates (setup : Setup) (writes : Writing) (trace : List Event) : Type 0 where
  pub ended : List JobValue
  pub are_reported : AreReported ended (reports_given trace)
  pub sending :
      (book_of (both_legs setup writes trace)).sending ≡ job_sent (both_legs setup writes trace).leg
  pub jobs_are : jobs_of (past_of (both_legs setup writes trace))
      ≡ ended ++ (as_list (job_sent (both_legs setup writes trace).leg)
      ++ (book_of (both_legs setup writes trace)).waiting)
  pub last_reports :
      (book_of (both_legs setup writes trace)).reports ≡ last_of kept_reports (reports_given trace)

abbrev pub JobsHaveStates : Type 0
JobsHaveStates = (setup : Setup) (writes : Writing) (trace : List Event)
    → IsTrace setup writes trace → HaveStates setup writes trace
