-- The pages of a call, of each number the first one.
use Rattle.std.proofs.Common.{◌≡◌, ℕ, zero, suc, ◌+◌, ◌<◌, ◌≤◌, Bool, true, false, cond, List, [], ◌∷◌, ◌++◌, length, take, drop, Option, Some, MatchOption, slice_get, refl, sym, ◌∙◌, ap, subst, arith, append_assoc}
use Rattle.std.proofs.lemmas.List.{append-nil}
use Rattle.std.specs.List.{list_any, remove}
use Rattle.fax_spool.specs.RecordOctets.{PageValue}
use Rattle.fax_undelivered.specs.Calls.{firsts_after, has_number}

pub first_of_it : (before : List PageValue) (page : PageValue) (rest : List PageValue) → list_any (has_number page.number) before ≡ false
    → firsts_after before (page ∷ rest) ≡ page ∷ firsts_after (before ++ page ∷ []) rest
first_of_it before page rest un =
    subst (λ (b : Bool). cond b (firsts_after before rest) (page ∷ firsts_after (before ++ page ∷ []) rest) ≡ page ∷ firsts_after (before ++ page ∷ []) rest) (sym un) refl

pub again_of_it : (before : List PageValue) (page : PageValue) (rest : List PageValue) → list_any (has_number page.number) before ≡ true → firsts_after before (page ∷ rest) ≡ firsts_after before rest
again_of_it before page rest so =
    subst (λ (b : Bool). cond b (firsts_after before rest) (page ∷ firsts_after (before ++ page ∷ []) rest) ≡ firsts_after before rest) (sym so) refl

pub joined : (before : List PageValue) (page : PageValue) (rest : List PageValue) → (before ++ page ∷ []) ++ rest ≡ before ++ page ∷ rest
joined before page rest = append_assoc before (page ∷ []) rest

-- those so far, and of those still to come the first ones, where others were before all of them
abbrev so_far : (before pages : List PageValue) → ℕ → List PageValue
so_far before pages i = take i pages ++ firsts_after (before ++ take i pages) (drop i pages)

-- the first of them, where others follow
moved_on : (before : List PageValue) (p : PageValue) (taken rest : List PageValue) → p ∷ taken ++ firsts_after (before ++ p ∷ taken) rest ≡ p ∷ taken ++ firsts_after ((before ++ p ∷ []) ++ taken) rest
moved_on before p taken rest = ap (λ (l : List PageValue). p ∷ taken ++ firsts_after l rest) (sym (joined before p taken))

stays : (before pages : List PageValue) (i : ℕ) (page : PageValue) → slice_get pages i ≡ Some page → list_any (has_number page.number) (before ++ take i pages) ≡ false
    → so_far before pages i ≡ so_far before pages (suc i)
stays before [] i page at un = cc
stays before (p ∷ pages) zero page at un =
    let same : page ≡ p = cc in
    let none : list_any (has_number p.number) before ≡ false =
    subst (λ (l : List PageValue). list_any (has_number p.number) l ≡ false) (append-nil before) (subst (λ (x : PageValue). list_any (has_number x.number) (before ++ []) ≡ false) same un) in
    ap (λ (l : List PageValue). firsts_after l (p ∷ pages)) (append-nil before) ∙ first_of_it before p pages none
stays before (p ∷ pages) (suc i) page at un =
    moved_on before p (take i pages) (drop i pages)
    ∙ ap (λ (l : List PageValue). p ∷ l) (stays (before ++ p ∷ []) pages i page at (subst (λ (l : List PageValue). list_any (has_number page.number) l ≡ false) (sym (joined before p (take i pages))) un))
    ∙ sym (moved_on before p (take (suc i) pages) (drop (suc i) pages))

goes : (before pages : List PageValue) (i : ℕ) (page : PageValue) → slice_get pages i ≡ Some page → list_any (has_number page.number) (before ++ take i pages) ≡ true
    → so_far before pages i ≡ so_far before (remove pages i) i
goes before [] i page at so = cc
goes before (p ∷ pages) zero page at so =
    let same : page ≡ p = cc in again_of_it (before ++ []) p pages (subst (λ (x : PageValue). list_any (has_number x.number) (before ++ []) ≡ true) same so)
goes before (p ∷ pages) (suc i) page at so =
    moved_on before p (take i pages) (drop i pages)
    ∙ ap (λ (l : List PageValue). p ∷ l) (goes (before ++ p ∷ []) pages i page at (subst (λ (l : List PageValue). list_any (has_number page.number) l ≡ true) (sym (joined before p (take i pages))) so))
    ∙ sym (moved_on before p (take i (remove pages i)) (drop i (remove pages i)))

-- what was answered of the page at a place
abbrev pub Answers : List PageValue → ℕ → Bool → Type 0
Answers pages i b = MatchOption (slice_get pages i) (Unit {0}) (λ page. b ≡ list_any (has_number page.number) (take i pages))

answered : (pages : List PageValue) (i : ℕ) (b : Bool) (page : PageValue) → slice_get pages i ≡ Some page → Answers pages i b → list_any (has_number page.number) (take i pages) ≡ b
answered pages i b page at is = sym (subst (λ (o : Option PageValue). MatchOption o (Unit {0}) (λ page. b ≡ list_any (has_number page.number) (take i pages))) at is)

pub stays_so : (pages : List PageValue) (i : ℕ) (b : Bool) (page : PageValue) → b ≡ false → slice_get pages i ≡ Some page → Answers pages i b
    → take i pages ++ firsts_after (take i pages) (drop i pages) ≡ take (i + 1) pages ++ firsts_after (take (i + 1) pages) (drop (i + 1) pages)
stays_so pages i b page un at is =
    let next : suc i ≡ i + 1 = omega arith in
    stays [] pages i page at (answered pages i b page at is ∙ un) ∙ ap (λ (n : ℕ). take n pages ++ firsts_after (take n pages) (drop n pages)) next

pub goes_so : (pages : List PageValue) (i : ℕ) (b : Bool) (page : PageValue) → b ≡ true → slice_get pages i ≡ Some page → Answers pages i b
    → take i pages ++ firsts_after (take i pages) (drop i pages) ≡ take i (remove pages i) ++ firsts_after (take i (remove pages i)) (drop i (remove pages i))
goes_so pages i b page so at is = goes [] pages i page at (answered pages i b page at is ∙ so)

-- where all were looked at
pub all_looked_at : (before pages : List PageValue) (i : ℕ) → length pages ≤ i → take i pages ++ firsts_after before (drop i pages) ≡ pages
all_looked_at before [] zero low = refl
all_looked_at before [] (suc i) low = refl
all_looked_at before (p ∷ pages) zero low = absurd (omega (arith, low))
all_looked_at before (p ∷ pages) (suc i) low = ap (λ (l : List PageValue). p ∷ l) (all_looked_at before pages i (omega (arith, low)))

pub at_place : (pages : List PageValue) (i : ℕ) → i < length pages → (page : PageValue) × (slice_get pages i ≡ Some page)
at_place [] i low = absurd (omega (arith, low))
at_place (p ∷ pages) zero low = (p, refl)
at_place (p ∷ pages) (suc i) low = at_place pages i (omega (arith, low))
