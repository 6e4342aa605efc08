-- Jobs that begin, page by page.
use Rattle.std.proofs.Common.{◌≡◌, ℕ, ◌+◌, ◌<◌, List, [], ◌∷◌, ◌++◌, length, take, drop, get_or, sym, ◌∙◌, ap, append_assoc}
use Rattle.std.proofs.lemmas.List.{drop_more, take_more}
use Rattle.fax_spool.specs.RecordOctets.{PageValue}
use Rattle.fax_spool.specs.Torn.{CallName}
use Rattle.fax_listing.specs.Jobs.{JobValue, jobs_after, jobs_by}
use Rattle.fax_listing.specs.declared.job.JobState.{JobState}

-- one page more was looked at
pub next_jobs : (torn : List CallName) (whole : JobState) (pages : List PageValue) (i : ℕ) (page : PageValue) (jobs more total : List JobValue) → i < length pages → get_or pages i page ≡ page
    → more ≡ jobs ++ jobs_by torn whole pages (take i pages) page
    → jobs ++ jobs_after torn whole pages (take i pages) (drop i pages) ≡ total
    → more ++ jobs_after torn whole pages (take (i + 1) pages) (drop (i + 1) pages) ≡ total
next_jobs torn whole pages i page jobs more total lt got is was =
    let split : drop i pages ≡ page ∷ drop (i + 1) pages = drop_more pages i page lt ∙ ap (λ (p : PageValue). p ∷ drop (i + 1) pages) got in
    let front : take (i + 1) pages ≡ take i pages ++ page ∷ [] = take_more pages i page lt ∙ ap (λ (p : PageValue). take i pages ++ p ∷ []) got in
    ap (λ (l : List JobValue). l ++ jobs_after torn whole pages (take (i + 1) pages) (drop (i + 1) pages)) is
    ∙ append_assoc jobs (jobs_by torn whole pages (take i pages) page) (jobs_after torn whole pages (take (i + 1) pages) (drop (i + 1) pages))
    ∙ ap (λ (l : List PageValue). jobs ++ (jobs_by torn whole pages (take i pages) page ++ jobs_after torn whole pages l (drop (i + 1) pages))) front
    ∙ ap (λ (l : List PageValue). jobs ++ jobs_after torn whole pages (take i pages) l) (sym split)
    ∙ was
