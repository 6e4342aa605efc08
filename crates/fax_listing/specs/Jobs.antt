-- THE JOBS WHOSE PAGES WAIT IN A SPOOL, and which of them are looked at. (This project's profile.)
use Rattle.std.specs.Prelude.{ℕ, Bool, true, not, ◌&&◌, nat_eq, bytes_eq, List, [], ◌∷◌, ◌++◌, codes, Option, None, Some, if◌then◌else◌}
use Rattle.std.specs.List.{count_by, filter, list_any}
use Rattle.fax_spool.specs.RecordOctets.{PageValue}
use Rattle.fax_spool.specs.Torn.{CallName, is_of_any, same_call}
use Rattle.fax_listing.specs.declared.job.Choice.{Choice}
use Rattle.fax_listing.specs.declared.job.JobState.{JobState}
use Rattle.fax_listing.specs.declared.job.JobState.TheVariants.{Waits, Torn, Undelivered}

-- a job: which state it is in, the first of its pages that waits, and how many of them wait
pub record JobValue : Type 0 where
  pub state : JobState
  pub first : PageValue
  pub pages : ℕ

abbrev pub state_name : JobState → List ℕ
state_name Waits = codes "waits"
state_name Torn = codes "torn"
state_name Undelivered = codes "undelivered"

-- the state of the job of a page: this one, but where these calls lack a page
abbrev pub state_of : List CallName → JobState → PageValue → JobState
state_of torn whole page = if is_of_any torn page then Torn else whole

-- no page before this one came in its call
abbrev pub is_first : List PageValue → PageValue → Bool
is_first before page = not (list_any (same_call page) before)

-- the job of a page that is the first one of it, where these pages wait: all of them that came in its call
abbrev pub job_of : List CallName → JobState → List PageValue → PageValue → JobValue
job_of torn whole pages page = record {
  state = state_of torn whole page;
  first = page;
  pages = count_by (same_call page) pages;
}

abbrev pub jobs_by : List CallName
    → JobState → (pages before : List PageValue) → PageValue → List JobValue
jobs_by torn whole pages before page =
    if is_first before page then job_of torn whole pages page ∷ [] else []

-- those that begin after some pages
abbrev pub jobs_after : List CallName
    → JobState → (pages before rest : List PageValue) → List JobValue
jobs_after torn whole pages before [] = []
jobs_after torn whole pages before (page ∷ rest) =
    jobs_by torn whole pages before page ++ jobs_after torn whole pages (before ++ page ∷ []) rest

-- THE JOBS OF PAGES: one for each call of a line, where its first page stands.
abbrev pub jobs_of : List CallName → JobState → List PageValue → List JobValue
jobs_of torn whole pages = jobs_after torn whole pages [] pages

-- The cards of calls stand among the pages of those that were not delivered, as pages of number 0.
abbrev pub without_cards : List PageValue → List PageValue
without_cards pages = filter (λ page. not (nat_eq page.number 0)) pages

-- a page is looked at: each, where no job is chosen
abbrev pub is_chosen : Option Choice → PageValue → Bool
is_chosen None page = true
is_chosen (Some choice) page = nat_eq page.life choice.life
    && nat_eq page.call choice.call && bytes_eq page.line choice.line.now

abbrev pub chosen : Option Choice → List PageValue → List PageValue
chosen choice pages = filter (is_chosen choice) pages
