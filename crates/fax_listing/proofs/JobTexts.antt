-- The lines of jobs, one after the other.
use Rattle.std.proofs.Common.{◌≡◌, ◌∙◌, ℕ, ◌+◌, ◌<◌, List, [], ◌∷◌, ◌++◌, length, take, get_or, flat_map, sym, ap, append-nil}
use Rattle.std.proofs.lemmas.List.{take_more}
use Rattle.std.proofs.lemmas.List.Concat.{flat_map-append}
use Rattle.fax_listing.specs.Jobs.{JobValue}

-- one job more has its line
pub one_line_more : (f : JobValue → List ℕ) (jobs : List JobValue) (i : ℕ) (job : JobValue) (text line more : List ℕ) → i < length jobs → get_or jobs i job ≡ job
    → text ≡ flat_map f (take i jobs) → line ≡ f job → more ≡ text ++ line → more ≡ flat_map f (take (i + 1) jobs)
one_line_more f jobs i job text line more lt got was is added =
    added ∙ ap (λ (l : List ℕ). l ++ line) was ∙ ap (λ (l : List ℕ). flat_map f (take i jobs) ++ l) (is ∙ sym (append-nil (f job)))
    ∙ sym (flat_map-append f (take i jobs) (job ∷ []))
    ∙ ap (flat_map f) (ap (λ (j : JobValue). take i jobs ++ j ∷ []) (sym got) ∙ sym (take_more jobs i job lt))
