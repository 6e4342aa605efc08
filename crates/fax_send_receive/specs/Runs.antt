-- What a run of `faxgate send` tells, and with which status a run ends that does not come to its end. (This project's profile.)
use Rattle.std.specs.Prelude.{◌≡◌, ℕ, ◌<◌, ◌≤◌, List, [], length, Option, Some, None}
use Rattle.fax_runcodes.specs.declared.format.Format.{Format}
use Rattle.fax_runcodes.specs.declared.format.Coding.{Coding}
use Rattle.fax_pagestore.specs.Pages.{PageValue}
use Rattle.fax_command.specs.declared.status.Status.{Status}
use Rattle.fax_command.specs.declared.status.Status.TheVariants as status
use Rattle.fax_jobs.specs.declared.report.Report.{Report}
use Rattle.fax_jobs.specs.Jobs.{JobValue, most_pages}
use Rattle.fax_terminal.specs.Calls.{TellsCall}
use Rattle.fax_send_receive.specs.declared.run_fault.RunFault.{RunFault}
use Rattle.fax_send_receive.specs.declared.run_fault.RunFault.TheVariants as faults
use Rattle.fax_send_receive.specs.declared.sending.SendOptions.{SendOptions}
use Rattle.fax_send_receive.specs.Files.{ArePagesOfFiles}

-- the exit status of a run that did not come to its end: 1 where the pages are at fault, 4 where the system is
abbrev pub status_of_fault : RunFault → Status
status_of_fault faults.NoMemory = status.NoMemory
status_of_fault (faults.Tiff path fault) = status.Fault
status_of_fault (faults.Picture path fault) = status.Fault
status_of_fault (faults.Text path fault) = status.Fault
status_of_fault faults.PageCount = status.Fault
status_of_fault fault = status.Stream

-- a report is of this job: its call, its format and its pages, and how a caller tells that the call of the job ended
pub record TellsJob (pause : ℕ) (job : JobValue) (report : Report) : Type 0 where
  pub call : report.call ≡ job.call
  pub format : report.format ≡ job.format
  pub pages : report.pages ≡ length job.pages
  pub ended :
      TellsCall pause job (record { outcome = report.outcome; delivered = report.delivered })

-- A job of call 0 whose pages are those of the files of these names, in their order; there is one at least, and they are few enough.
pub record IsJobOfFiles (holds : List ℕ → Option (List ℕ))
    (format : Format) (coding : Coding) (names : List (List ℕ)) (job : JobValue) : Type 0 where
  pub call : job.call ≡ 0
  pub some : 0 < length job.pages
  pub few : length job.pages ≤ most_pages
  pub pages : ArePagesOfFiles holds format coding names job.pages

-- A run with files of these names tells how the call of such a job ended.
pub record TellsRun (holds : List ℕ → Option (List ℕ))
    (options : SendOptions) (names : List (List ℕ)) (report : Report) : Type 0 where
  pub job : JobValue
  pub of_files : IsJobOfFiles holds options.format options.coding names job
  pub tells : TellsJob options.settings.preamble_ms job report

-- ---- on the way there

-- the pages of a job, where one was begun
abbrev pub pages_of : Option JobValue → List PageValue
pages_of None = []
pages_of (Some job) = job.pages

-- it is of call 0, and has a page at least and not too many
abbrev pub IsBegun : Option JobValue → Type 0
IsBegun None = Unit {0}
IsBegun (Some job) = (job.call ≡ 0) × (0 < length job.pages) × (length job.pages ≤ most_pages)
