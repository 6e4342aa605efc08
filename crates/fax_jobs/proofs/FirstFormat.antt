-- The format of a job's first page stays where a page joins.
use Rattle.std.proofs.Common.{◌≡◌, ℕ, ◌+◌, ◌<◌, List, [], ◌∷◌, ◌++◌, length, Result, Ok, Err, OnOk, OnErr, sym, subst, arith, length-append}
use Rattle.std.proofs.lemmas.List.Elements.{All-push}
use Rattle.fax_runcodes.specs.declared.format.Format.{Format}
use Rattle.fax_pagestore.specs.Pages.{PageValue, IsPage}
use Rattle.fax_jobs.specs.Jobs.{most_pages, IsOfFirst, IsJob}

pub first_stays : (format : Format) (pages : List PageValue) (page : PageValue) → IsOfFirst format pages → IsOfFirst format (pages ++ page ∷ [])
first_stays format [] page f = absurd f
first_stays format (p ∷ pages) page f = f

-- a job with a page more is one
pub grown : (call : ℕ) (format : Format) (pages : List PageValue) (page : PageValue) → IsJob (record { call = call; format = format; pages = pages }) → length pages < most_pages → IsPage page
    → IsJob (record { call = call; format = format; pages = pages ++ page ∷ [] })
grown call format pages page j few p =
    let m : length (pages ++ page ∷ []) ≡ length pages + 1 = grind (arith, length-append) in
    record { some = omega arith; few = omega arith; of_first = first_stays format pages page j.of_first; are_pages = All-push IsPage pages page j.are_pages p }

-- where it was pushed, or refused
pub pushed : {A E : Type 0} → (r : Result A E) (call : ℕ) (format : Format) (old new : List PageValue) (page : PageValue) → IsJob (record { call = call; format = format; pages = old }) → length old < most_pages → IsPage page
    → OnOk r (new ≡ old ++ page ∷ []) → OnErr r (new ≡ old) → IsJob (record { call = call; format = format; pages = new })
pushed (Ok x) call format old new page j few p ok err =
    let Q : List PageValue → Type 0 = λ ps. IsJob (record { call = call; format = format; pages = ps }) in
    subst Q (sym ok) (grown call format old page j few p)
pushed (Err x) call format old new page j few p ok err =
    let Q : List PageValue → Type 0 = λ ps. IsJob (record { call = call; format = format; pages = ps }) in
    subst Q (sym err) j
