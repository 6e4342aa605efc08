-- Where the pages of jobs come from.
use Rattle.std.specs.Prelude.{ℕ, List, [], ◌∷◌}
use Rattle.fax_pagestore.specs.Pages.{PageValue}
use Rattle.fax_jobs.specs.Jobs.{JobValue, IsJob}
use Rattle.fax_jobs.specs.Pasts.{as_list, jobs_of}
use Rattle.fax_call.specs.Writings.{Writing}
use Rattle.fax_gateway.specs.Setups.{Setup}
use Rattle.fax_gateway.specs.Events.{Event}
use Rattle.fax_gateway.specs.BothLegs.{past_of, book_of, both_legs}
use Rattle.fax_gateway.specs.Traces.{IsTrace}
use Rattle.fax_gateway.specs.Forwards.{WasConfirmed}

abbrev pub AreConfirmed : Setup → List Event → ℕ → List PageValue → Type 0
AreConfirmed setup trace call [] = Unit {0}
AreConfirmed setup trace call (page ∷ pages) =
    WasConfirmed setup trace call page × AreConfirmed setup trace call pages

-- 1 to 999 pages, the first of the job's format, each confirmed in the call that the job names
pub record IsOfItsCall (setup : Setup) (trace : List Event) (job : JobValue) : Type 0 where
  pub is_job : IsJob job
  pub confirmed : AreConfirmed setup trace job.call job.pages

abbrev pub AreOfTheirCalls : Setup → List Event → List JobValue → Type 0
AreOfTheirCalls setup trace [] = Unit {0}
AreOfTheirCalls setup trace (job ∷ jobs) =
    IsOfItsCall setup trace job × AreOfTheirCalls setup trace jobs

-- So is each job that was closed, and the open one.
abbrev pub JobsAreOfTheirCalls : Type 0
JobsAreOfTheirCalls = (setup : Setup) (writes : Writing) (trace : List Event)
    → IsTrace setup writes trace
    → AreOfTheirCalls setup trace (jobs_of (past_of (both_legs setup writes trace)))
    × AreOfTheirCalls setup trace (as_list (book_of (both_legs setup writes trace)).open_job)
