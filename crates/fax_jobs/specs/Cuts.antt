-- How the confirmations of a call are cut into jobs, as a relation. (This project's profile.) A cut stands after a
-- confirmation for EOP, after the 999th page of a job and at the end of the call, and nowhere else; pages of any formats
-- stand in one job. Confirmations and jobs are in the order of time here.
use Rattle.std.specs.Prelude.{◌≡◌, ℕ, ◌<◌, ◌≤◌, ◌⊎◌, Bool, true, false, List, [], ◌∷◌, ◌++◌, length, map, Option, Some, None}
use Rattle.fax_pagestore.specs.Pages.{PageValue}
use Rattle.fax_jobs.specs.Jobs.{JobValue, most_pages, IsOfFirst}
use Rattle.fax_jobs.specs.Pasts.{Step, Confirms, CallEnds, Sends, Ends, Past, after_steps, jobs_of}

-- a confirmed page, and whether its command was EOP
pub record Confirmation : Type 0 where
  pub page : PageValue
  pub closes : Bool

abbrev pub pages_by : List Confirmation → List PageValue
pages_by confirmations = map (λ c. c.page) confirmations

-- none but the last is for EOP
abbrev pub NoneButLast : List Confirmation → Type 0
NoneButLast [] = Unit {0}
NoneButLast (c ∷ []) = Unit {0}
NoneButLast (c ∷ d ∷ cs) = (c.closes ≡ false) × NoneButLast (d ∷ cs)

-- the last is for EOP
abbrev pub EndsByEop : List Confirmation → Type 0
EndsByEop [] = ⊥
EndsByEop (c ∷ []) = c.closes ≡ true
EndsByEop (c ∷ d ∷ cs) = EndsByEop (d ∷ cs)

-- a job of the confirmations `own`, after which `others` came in the same call
pub record IsJobOf (call : ℕ) (own others : List Confirmation) (job : JobValue) : Type 0 where
  pub same_call : job.call ≡ call
  pub some : 0 < length own
  pub few : length own ≤ most_pages
  pub same_pages : job.pages ≡ pages_by own
  pub of_first : IsOfFirst job.format job.pages
  pub eop_at_end : NoneButLast own
  -- why it ends here: the end of the call, EOP or the 999th page
  pub why : (others ≡ []) ⊎ EndsByEop own ⊎ (length own ≡ most_pages)

-- the jobs of a call that has ended
abbrev pub IsCutOf : ℕ → List Confirmation → List JobValue → Type 0
IsCutOf call cs [] = cs ≡ []
IsCutOf call cs (job ∷ jobs) = (own : List Confirmation) × (others : List Confirmation)
    × (cs ≡ own ++ others) × IsJobOf call own others job × IsCutOf call others jobs

-- A call that is on: a cut is known once the job ends by EOP or a further confirmation came; till then the job is open.
abbrev pub IsKnown : List Confirmation → List Confirmation → Type 0
IsKnown own others = EndsByEop own ⊎ (others ≡ [] → ⊥)

abbrev pub IsRest : ℕ → Option JobValue → List Confirmation → Type 0
IsRest call None cs = cs ≡ []
IsRest call (Some job) cs = IsJobOf call cs [] job × (EndsByEop cs → ⊥)

abbrev pub IsCutSoFar : ℕ → List Confirmation → List JobValue → Option JobValue → Type 0
IsCutSoFar call cs [] open_job = IsRest call open_job cs
IsCutSoFar call cs (job ∷ jobs) open_job =
    (own : List Confirmation) × (others : List Confirmation) × (cs ≡ own ++ others)
    × IsJobOf call own others job × IsKnown own others × IsCutSoFar call others jobs open_job

-- the confirmations among steps, which are the newest first
abbrev pub confirmations : List Step → List Confirmation
confirmations [] = []
confirmations (Confirms call page closes ∷ before) =
    confirmations before ++ record { page = page; closes = closes } ∷ []
confirmations (CallEnds ∷ before) = confirmations before
confirmations (Sends ∷ before) = confirmations before
confirmations (Ends outcome delivered ∷ before) = confirmations before

-- the steps while a call is on: each confirmation is of this call
abbrev pub AreInCall : ℕ → List Step → Type 0
AreInCall call [] = Unit {0}
AreInCall call (Confirms number page closes ∷ before) = (number ≡ call) × AreInCall call before
AreInCall call (CallEnds ∷ before) = ⊥
AreInCall call (Sends ∷ before) = AreInCall call before
AreInCall call (Ends outcome delivered ∷ before) = AreInCall call before

-- these jobs were closed, one after another, after those that were
pub record ClosesAfter (old new : Past) (jobs : List JobValue) : Type 0 where
  pub jobs_are : jobs_of new ≡ jobs_of old ++ jobs

-- In a call that is on, whatever is sent and ends meanwhile, the jobs that were closed and the open one are the cut so far.
pub record IsCutSince (call : ℕ) (old : Past) (steps : List Step) : Type 0 where
  pub jobs : List JobValue
  pub cut : IsCutSoFar call (confirmations steps) jobs (after_steps old steps).book.open_job
  pub closes : ClosesAfter old (after_steps old steps) jobs

-- Once it has ended, the jobs that were closed are the cut of its confirmations, and none is open.
pub record IsCutAtEnd (call : ℕ) (old : Past) (steps : List Step) : Type 0 where
  pub jobs : List JobValue
  pub cut : IsCutOf call (confirmations steps) jobs
  pub closes : ClosesAfter old (after_steps old (CallEnds ∷ steps)) jobs
  pub none_open : (after_steps old (CallEnds ∷ steps)).book.open_job ≡ None

abbrev pub CutsEachCall : Type 0
CutsEachCall =
    (old : Past) (call : ℕ) (steps : List Step) → old.book.open_job ≡ None → AreInCall call steps
    → IsCutSince call old steps × IsCutAtEnd call old steps

-- While no call is on, what is sent and ends changes no order: the jobs stay the same, and none is open.
abbrev pub AreBetweenCalls : List Step → Type 0
AreBetweenCalls [] = Unit {0}
AreBetweenCalls (Confirms call page closes ∷ before) = ⊥
AreBetweenCalls (CallEnds ∷ before) = AreBetweenCalls before
AreBetweenCalls (Sends ∷ before) = AreBetweenCalls before
AreBetweenCalls (Ends outcome delivered ∷ before) = AreBetweenCalls before

abbrev pub KeepsJobs : Type 0
KeepsJobs = (old : Past) (steps : List Step) → old.book.open_job ≡ None
    → AreBetweenCalls steps → (jobs_of (after_steps old steps) ≡ jobs_of old)
    × ((after_steps old steps).book.open_job ≡ None)

-- Confirmations are cut in one way only.
abbrev pub CutsAreOne : Type 0
CutsAreOne = (call : ℕ) (cs : List Confirmation) (jobs others : List JobValue)
    → IsCutOf call cs jobs → IsCutOf call cs others → jobs ≡ others

-- The pages of the jobs of a call are the confirmed pages, in their order, each once.
abbrev pub pages_of : List JobValue → List PageValue
pages_of [] = []
pages_of (job ∷ jobs) = job.pages ++ pages_of jobs

abbrev pub HoldsEachPageOnce : Type 0
HoldsEachPageOnce = (call : ℕ) (cs : List Confirmation) (jobs : List JobValue)
    → IsCutOf call cs jobs → pages_of jobs ≡ pages_by cs
