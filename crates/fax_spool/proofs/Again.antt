-- Pages that are put again: what waits stays as it was.
use Rattle.std.proofs.Common.{◌≡◌, ℕ, Bool, true, false, not, cond, List, [], ◌∷◌, ◌++◌, map, refl, sym, ◌∙◌, ap, arith, append_assoc, bytes_eq}
use Rattle.std.specs.List.{filter}
use Rattle.std.proofs.lemmas.List.{append-nil, map-append}
use Rattle.std.proofs.lemmas.Bool.Decides.{nat_tests}
use Rattle.std.proofs.lemmas.Slice.Eq.{bytes_eq-Decides}
use Rattle.fax_spool.specs.RecordOctets.{PageValue, EndedValue}
use Rattle.fax_spool.specs.SpoolRecords.{page_record}
use Rattle.fax_spool.specs.Waits.{name_of, ends, without, left_of, left_after, waiting_after, waiting}
use Rattle.fax_spool.specs.StoredPages.{end_alone, ended_alone, put_again}
use Rattle.fax_spool.specs.Spools.{AreAbove, NoneIsLeft, greatest_after, raised}
use Rattle.fax_spool.specs.declared.spool_record.SpoolRecord.{SpoolRecord}
use Rattle.fax_spool.proofs.Shares.{follows, shares}

-- ---- two ends, in either order

both : {X : Type 0} → (X → Bool) → (X → Bool) → List X → List X
both f g [] = []
both f g (x ∷ xs) = cond (f x) (cond (g x) (x ∷ both f g xs) (both f g xs)) (both f g xs)

no_matter : {X : Type 0} (b : Bool) (xs : List X) → cond b xs xs ≡ xs
no_matter true xs = refl
no_matter false xs = refl

twice : {X : Type 0} (f g : X → Bool) (xs : List X) → filter f (filter g xs) ≡ both f g xs
unfolding both
twice f g [] = refl
twice f g (x ∷ xs) =
    elim (g x) as (λ b. filter f (cond b (x ∷ filter g xs) (filter g xs)) ≡ cond (f x) (cond b (x ∷ both f g xs) (both f g xs)) (both f g xs)) [
      | true ↦ ap (λ (l : List _). cond (f x) (x ∷ l) l) (twice f g xs)
      | false ↦ twice f g xs ∙ sym (no_matter (f x) (both f g xs))
    ]

either : {X : Type 0} (f g : X → Bool) (xs : List X) → both f g xs ≡ both g f xs
unfolding both
either f g [] = refl
either f g (x ∷ xs) =
    elim (f x) as (λ a. cond a (cond (g x) (x ∷ both f g xs) (both f g xs)) (both f g xs) ≡ cond (g x) (cond a (x ∷ both g f xs) (both g f xs)) (both g f xs)) [
      | true ↦ ap (λ (l : List _). cond (g x) (x ∷ l) l) (either f g xs)
      | false ↦ either f g xs ∙ sym (no_matter (g x) (both g f xs))
    ]

swapped : (e d : EndedValue) (pages : List PageValue) → without e (without d pages) ≡ without d (without e pages)
swapped e d pages =
    twice (λ (p : PageValue). not (ends e (name_of p))) (λ (p : PageValue). not (ends d (name_of p))) pages
    ∙ either (λ (p : PageValue). not (ends e (name_of p))) (λ (p : PageValue). not (ends d (name_of p))) pages
    ∙ sym (twice (λ (p : PageValue). not (ends d (name_of p))) (λ (p : PageValue). not (ends e (name_of p))) pages)

-- ---- the ends of pages, each alone

abbrev ends_of : List PageValue → List SpoolRecord
ends_of pages = map ended_alone pages

left_first : (e : EndedValue) (waits pages : List PageValue) → left_after (without e waits) (ends_of pages) ≡ without e (left_after waits (ends_of pages))
left_first e waits [] = refl
left_first e waits (p ∷ pages) =
    ap (λ (l : List PageValue). left_after l (ends_of pages)) (swapped (end_alone (name_of p)) e waits) ∙ left_first e (without (end_alone (name_of p)) waits) pages

left_both : (waits : List PageValue) (records more : List SpoolRecord) → left_after waits (records ++ more) ≡ left_after (left_after waits records) more
left_both waits [] more = refl
left_both waits (r ∷ records) more = left_both (left_of waits r) records more

-- in either order
left_swapped : (waits pages others : List PageValue) → left_after (left_after waits (ends_of pages)) (ends_of others) ≡ left_after (left_after waits (ends_of others)) (ends_of pages)
left_swapped waits [] others = refl
left_swapped waits (p ∷ pages) others =
    left_swapped (without (end_alone (name_of p)) waits) pages others
    ∙ ap (λ (l : List PageValue). left_after l (ends_of pages)) (left_first (end_alone (name_of p)) waits others)

none_without : (pages : List PageValue) → left_after [] (ends_of pages) ≡ []
none_without [] = refl
none_without (p ∷ pages) = none_without pages

ends_itself : (p : PageValue) → ends (end_alone (name_of p)) (name_of p) ≡ true
ends_itself p = let same : bytes_eq p.line p.line ≡ true = (bytes_eq-Decides p.line p.line).1 refl in grind (arith, nat_tests)

-- each page is ended by its own
none_of_them : (pages : List PageValue) → left_after pages (ends_of pages) ≡ []
none_of_them [] = refl
none_of_them (p ∷ pages) =
    let own : EndedValue = end_alone (name_of p) in
    ap (λ b. left_after (cond (not b) (p ∷ without own pages) (without own pages)) (ends_of pages)) (ends_itself p)
    ∙ left_first own pages pages ∙ ap (λ (l : List PageValue). without own l) (none_of_them pages)

-- and so are the first and the last of some pages
none_of_first : (first last : List PageValue) → left_after first (ends_of (first ++ last)) ≡ []
none_of_first first last =
    ap (λ (l : List SpoolRecord). left_after first l) (map-append ended_alone first last) ∙ left_both first (ends_of first) (ends_of last)
    ∙ ap (λ (l : List PageValue). left_after l (ends_of last)) (none_of_them first) ∙ none_without last

none_of_last : (first last : List PageValue) → left_after last (ends_of (first ++ last)) ≡ []
none_of_last first last =
    ap (λ (l : List SpoolRecord). left_after last l) (map-append ended_alone first last) ∙ left_both last (ends_of first) (ends_of last)
    ∙ left_swapped last first last
    ∙ ap (λ (l : List PageValue). left_after l (ends_of first)) (none_of_them last) ∙ none_without first

-- by them no page waits more
waits_ended : (waits pages : List PageValue) → waiting_after waits (ends_of pages) ≡ left_after waits (ends_of pages)
waits_ended waits [] = refl
waits_ended waits (p ∷ pages) = waits_ended (without (end_alone (name_of p)) waits) pages

-- ---- the records of pages

left_kept : (waits pages : List PageValue) → left_after waits (map page_record pages) ≡ waits
left_kept waits [] = refl
left_kept waits (p ∷ pages) = left_kept waits pages

waits_kept : (waits pages : List PageValue) → waiting_after waits (map page_record pages) ≡ waits ++ pages
waits_kept waits [] = sym (append-nil waits)
waits_kept waits (p ∷ pages) = waits_kept (waits ++ p ∷ []) pages ∙ append_assoc waits (p ∷ []) pages

-- ---- all pages that wait by two files

left_so : (olds news : List SpoolRecord) (pages : List PageValue) → pages ≡ left_after (waiting olds) news ++ waiting news → left_after (waiting olds) (news ++ put_again pages) ≡ []
left_so olds news pages are =
    left_both (waiting olds) news (put_again pages) ∙ left_both (left_after (waiting olds) news) (ends_of pages) (map page_record pages)
    ∙ left_kept (left_after (left_after (waiting olds) news) (ends_of pages)) pages
    ∙ ap (λ (l : List PageValue). left_after (left_after (waiting olds) news) (ends_of l)) are ∙ none_of_first (left_after (waiting olds) news) (waiting news)

pub left_again : (olds news : List SpoolRecord) → NoneIsLeft olds (news ++ put_again (waiting (olds ++ news)))
left_again olds news = left_so olds news (waiting (olds ++ news)) (shares olds news)

waits_so : (olds news : List SpoolRecord) (pages : List PageValue) → pages ≡ left_after (waiting olds) news ++ waiting news → waiting (news ++ put_again pages) ≡ pages
waits_so olds news pages are =
    follows [] news (put_again pages) ∙ follows (waiting news) (ends_of pages) (map page_record pages)
    ∙ waits_kept (waiting_after (waiting news) (ends_of pages)) pages
    ∙ ap (λ (l : List PageValue). l ++ pages) (waits_ended (waiting news) pages ∙ ap (λ (l : List PageValue). left_after (waiting news) (ends_of l)) are ∙ none_of_last (left_after (waiting olds) news) (waiting news))

pub waits_again : (olds news : List SpoolRecord) → waiting (news ++ put_again (waiting (olds ++ news))) ≡ waiting (olds ++ news)
waits_again olds news = waits_so olds news (waiting (olds ++ news)) (shares olds news)

-- just what waited waits
pub more_again : (olds news : List SpoolRecord) → waiting (olds ++ (news ++ put_again (waiting (olds ++ news)))) ≡ waiting (olds ++ news)
more_again olds news =
    shares olds (news ++ put_again (waiting (olds ++ news)))
    ∙ ap (λ (l : List PageValue). l ++ waiting (news ++ put_again (waiting (olds ++ news)))) (left_again olds news) ∙ waits_again olds news

-- ---- epochs

above_kept : (n : ℕ) (pages : List PageValue) → AreAbove n (map page_record pages)
above_kept n [] = tt
above_kept n (p ∷ pages) = above_kept n pages

above_ended : (n : ℕ) (pages : List PageValue) (more : List SpoolRecord) → AreAbove n more → AreAbove n (ends_of pages ++ more)
above_ended n [] more above = above
above_ended n (p ∷ pages) more above = above_ended n pages more above

pub above_again : (n : ℕ) (pages : List PageValue) → AreAbove n (put_again pages)
above_again n pages = above_ended n pages (map page_record pages) (above_kept n pages)

greatest_kept : (pages : List PageValue) (most : ℕ) → greatest_after most (map page_record pages) ≡ most
greatest_kept [] most = refl
greatest_kept (p ∷ pages) most = greatest_kept pages most

greatest_ended : (pages : List PageValue) (more : List SpoolRecord) (most : ℕ) → greatest_after most (ends_of pages ++ more) ≡ greatest_after most more
greatest_ended [] more most = refl
greatest_ended (p ∷ pages) more most = greatest_ended pages more most

pub greatest_again : (records : List SpoolRecord) (pages : List PageValue) (most : ℕ) → greatest_after most (records ++ put_again pages) ≡ greatest_after most records
greatest_again [] pages most = greatest_ended pages (map page_record pages) most ∙ greatest_kept pages most
greatest_again (r ∷ records) pages most = greatest_again records pages (raised most r)
