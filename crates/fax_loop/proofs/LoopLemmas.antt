-- Lines of the rows of pages.
use Rattle.std.proofs.Common.{◌≡◌, ℕ, zero, suc, ◌+◌, List, [], ◌∷◌, ◌++◌, take, Some, slice_get, add-one, sym, ◌∙◌, ap, append-nil, append_assoc}
use Rattle.fax_pagestore.specs.Pages.{PageValue}
use Rattle.fax_runcodes.specs.Rows.{Elements}
use Rattle.fax_command.specs.RowLines.{TellRows}
use Rattle.fax_loop.specs.Answers.{rows_of}

-- lines that tell rows, after others that do
pub TellRows-append : (lines more : List (List ℕ)) (rows others : List Elements) → TellRows lines rows → TellRows more others
    → TellRows (lines ++ more) (rows ++ others)
TellRows-append [] more [] others told then = then
TellRows-append [] more (row ∷ rows) others told then = absurd told
TellRows-append (line ∷ lines) more [] others told then = absurd told
TellRows-append (line ∷ lines) more (row ∷ rows) others told then = (told.0, TellRows-append lines more rows others told.1 then)

-- the rows of one page more
pub rows_of-more : (pages : List PageValue) (i : ℕ) (page : PageValue) → slice_get pages i ≡ Some page
    → rows_of (take (i + 1) pages) ≡ rows_of (take i pages) ++ page.rows
rows_of-more [] i page found = cc
rows_of-more (p ∷ pages) zero page found = let same : p ≡ page = cc in ap (λ (x : PageValue). x.rows ++ []) same ∙ append-nil page.rows
rows_of-more (p ∷ pages) (suc i) page found =
    ap (λ n. rows_of (take n (p ∷ pages))) (add-one (suc i)) ∙ ap (λ rest. p.rows ++ rest) (ap (λ n. rows_of (take n pages)) (sym (add-one i)) ∙ rows_of-more pages i page found)
    ∙ sym (append_assoc p.rows (rows_of (take i pages)) page.rows)
