-- Whether a page closes its job changes no call.
use Rattle.std.proofs.Common.{◌≡◌, Bool, ◌||◌, not, List, [], ◌∷◌, cond, refl, ◌∙◌, ap}
use Rattle.std.specs.List.{list_any}
use Rattle.fax_spool.specs.RecordOctets.{PageValue}
use Rattle.fax_spool.specs.Opened.{closed, closing, same_call}
use Rattle.fax_undelivered.specs.Calls.{CallValue, calls_after, is_of, told_by, with_page}

closing_tells : (b : Bool) (page : PageValue) (calls : List CallValue) → with_page (closing b page) calls ≡ with_page page calls
closing_tells b page [] = refl
closing_tells b page (c ∷ calls) = ap (λ (l : List CallValue). cond (is_of c page) (told_by page c ∷ calls) (c ∷ l)) (closing_tells b page calls)

pub closed_tell : (pages : List PageValue) (calls : List CallValue) → calls_after calls (closed pages) ≡ calls_after calls pages
closed_tell [] calls = refl
closed_tell (page ∷ pages) calls =
    ap (λ (l : List CallValue). calls_after l (closed pages)) (closing_tells (page.closes || not (list_any (same_call page) pages)) page calls)
    ∙ closed_tell pages (with_page page calls)
