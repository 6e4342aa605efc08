-- What `faxgate loop` answers to an input. (This project's profile.)
use Rattle.std.specs.Prelude.{◌≡◌, ℕ, false, List, [], ◌∷◌, Option, None, Some}
use Rattle.std.specs.List.{flat_map}
use Rattle.fax_runcodes.specs.Rows.{Elements}
use Rattle.fax_runcodes.specs.declared.Width.TheVariants as width
use Rattle.fax_runcodes.specs.declared.format.Coding.TheVariants as coding
use Rattle.fax_pagestore.specs.Pages.{PageValue}
use Rattle.fax_pagestore.specs.PageTexts.{MeansRows}
use Rattle.fax_jobs.specs.declared.outcome.Outcome.{Outcome as JobOutcome}
use Rattle.fax_jobs.specs.declared.outcome.Outcome.TheVariants as job
use Rattle.fax_jobs.specs.declared.report.Report.{Report}
use Rattle.fax_jobs.specs.ReportTexts.{report_text}
use Rattle.fax_command.specs.declared.input_fault.InputFault.{InputFault}
use Rattle.fax_command.specs.declared.input_fault.InputFault.TheVariants as faults
use Rattle.fax_command.specs.declared.options.Output.TheVariants as output
use Rattle.fax_command.specs.declared.options.PageOptions.{PageOptions}
use Rattle.fax_command.specs.Answers.{IsHexOf, RefusesPage, fault_line, row_width}
use Rattle.fax_command.specs.RowLines.{TellRows, text_of_lines}
use Rattle.fax_loop.specs.declared.ending.Ending.{Ending}
use Rattle.fax_loop.specs.declared.ending.Ending.TheVariants as endings

-- How the page is given: in rows of 1,728 elements, of the standard resolution, in one-dimensional lines.
abbrev pub page_options : PageOptions
page_options = record {
  format = record {
    width = width.W1728;
    fine = false;
  };
  coding = coding.Mh;
  least_bits = 0;
  output = output.Runs;
}

-- the input is hex text of octets that mean this page
abbrev pub IsInput : PageValue → List ℕ → Type 0
IsInput page input = (page.format ≡ page_options.format) × (octets : List ℕ)
    × IsHexOf input octets × MeansRows (row_width page_options) page_options.coding octets page.rows

-- the page was the one of the input, and it was sent so
abbrev pub Sends : (Sent : PageValue → Option Report → List PageValue → Type 0)
    → List ℕ → Option Report → List PageValue → Type 0
Sends Sent input report pages = (page : PageValue) × IsInput page input × Sent page report pages

-- the rows of pages, one after the other
abbrev pub rows_of : List PageValue → List Elements
rows_of pages = flat_map (λ page. page.rows) pages

-- How a run ends: the gateway reports the job, and these rows are told, which are those of the pages that the machine that is
-- called confirmed; it reports none; or something is wrong with the input, or memory is wanted.
pub data Outcome : Type 0 where
  Reports : (report : Report) → (rows : List Elements) → Outcome
  ReportsNone : Outcome
  Refuses : (fault : InputFault) → Outcome

-- what is told of a report, or of none, and of the pages that were confirmed
abbrev pub IsOf : Option Report → List PageValue → Outcome → Type 0
IsOf report pages (Reports told rows) = (report ≡ Some told) × (rows ≡ rows_of pages)
IsOf report pages ReportsNone = report ≡ None
IsOf report pages (Refuses fault) = fault ≡ faults.NoMemory

abbrev pub Allows : (Sent : PageValue → Option Report → List PageValue → Type 0)
    → List ℕ → Outcome → Type 0
Allows Sent input (Reports report rows) =
    (pages : List PageValue) × Sends Sent input (Some report) pages × (rows ≡ rows_of pages)
Allows Sent input ReportsNone = (pages : List PageValue) × Sends Sent input None pages
Allows Sent input (Refuses fault) = RefusesPage page_options input fault

abbrev pub job_status : JobOutcome → ℕ
job_status job.Delivered = 0
job_status job.NotReceiver = 5
job_status job.WidthLacking = 5
job_status job.FineLacking = 5
job_status job.RatesSpent = 5
job_status job.NoAnswer = 5
job_status job.NoReply = 5
job_status job.PageRefused = 5
job_status job.HungUp = 5
job_status job.NotPlaced = 5

abbrev pub ending_status : Ending → ℕ
ending_status (endings.Reported outcome) = job_status outcome
ending_status endings.Unreported = 5
ending_status endings.Fault = 1
ending_status endings.NoMemory = 3
ending_status endings.Stream = 4
ending_status (endings.Socket error) = 4

-- as a run tells it
abbrev pub fault_ending : InputFault → Ending
fault_ending faults.Hex = endings.Fault
fault_ending (faults.Page of) = endings.Fault
fault_ending (faults.Row n) = endings.Fault
fault_ending faults.NoMemory = endings.NoMemory

abbrev pub ending_of : Outcome → Ending
ending_of (Reports report rows) = endings.Reported report.outcome
ending_of ReportsNone = endings.Unreported
ending_of (Refuses of) = fault_ending of

-- the line of the job, and of each row that is told; or that of the fault
abbrev pub IsTextOf : Outcome → List ℕ → Type 0
IsTextOf (Reports report rows) text = (lines : List (List ℕ))
    × TellRows lines rows × (text ≡ text_of_lines (report_text report ∷ lines))
IsTextOf ReportsNone text = text ≡ []
IsTextOf (Refuses fault) text = text ≡ fault_line fault

-- how a run may end by which pages are sent so, and the text that it then answers to an input
pub record EndsSo (Sent : PageValue → Option Report → List PageValue → Type 0)
    (input : List ℕ) (ending : Ending) (text : List ℕ) : Type 0 where
  pub outcome : Outcome
  pub allowed : Allows Sent input outcome
  pub ending_is : ending ≡ ending_of outcome
  pub text_is : IsTextOf outcome text

-- the exit status and the text that it may answer
pub record Answers (Sent : PageValue → Option Report → List PageValue → Type 0)
    (input : List ℕ) (status : ℕ) (text : List ℕ) : Type 0 where
  pub ending : Ending
  pub ends_so : EndsSo Sent input ending text
  pub status_is : status ≡ ending_status ending

-- how what a call came to is told
pub record EndsOf (report : Option Report)
    (pages : List PageValue) (ending : Ending) (text : List ℕ) : Type 0 where
  pub outcome : Outcome
  pub is_of : IsOf report pages outcome
  pub ending_is : ending ≡ ending_of outcome
  pub text_is : IsTextOf outcome text
