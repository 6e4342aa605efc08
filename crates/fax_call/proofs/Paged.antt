-- The images that are counted are those of the pages below `delivered`, one each.
use Rattle.std.proofs.Common.{◌≡◌, ℕ, suc, ◌+◌, ◌≤◌, true, false, List, [], ◌∷◌, Option, Some, None, inl, inr, refl, sym, ◌∙◌, ap, arith}
use Rattle.fax_jobs.specs.declared.outcome.Outcome.{Outcome}
use Rattle.fax_jobs.specs.Jobs.{JobValue}
use Rattle.fax_call.specs.Calls.{CallEvent}
use Rattle.fax_call.specs.Emission.{Emission, Mark, Gave, Acknowledged, Refused, Begins, elements_given, emitted_at, Reply, Unasked, Asked, Answered, replied, IsAnswered, EmitsBy, Emits}
use Rattle.fax_call.specs.Numbers.{numbered}
use Rattle.fax_call.specs.Delivery.{good_one, answered_if, answered_before, CountsAnswers, IsAfter, page_answered, page_if, pages_before, pages_answered, all_below, AnswersThePages}
use Rattle.fax_call.proofs.Numbered.{numbers_are_fixed}

-- at least as many were answered as pages stand before the last
at_least_by : (job : JobValue) (marks : List Mark) (o : Option Emission) (n : ℕ) → EmitsBy job o (replied marks) (Some n) (Emits job marks) →
    ((m : ℕ) → Emits job marks (Some m) → m ≤ answered_before marks) → n ≤ answered_if o (replied marks) + answered_before marks
at_least_by job marks None n h f = let k : n ≤ answered_before marks = f n h in omega arith
at_least_by job marks (Some x) n h f = by h.1 (replied marks) h.2 h.3
  where
    by : (last : Option ℕ) (r : Reply) → Emits job marks last → IsAnswered last r n → n ≤ good_one r + answered_before marks
    by None r e a = omega (arith, a)
    by (Some m) Unasked e a = absurd a
    by (Some m) Asked e a = absurd a
    by (Some m) (Answered true) e a = let k : m ≤ answered_before marks = f m e in omega (arith, a)
    by (Some m) (Answered false) e a = let k : m ≤ answered_before marks = f m e in omega (arith, a)

at_least : (job : JobValue) (marks : List Mark) (n : ℕ) → Emits job marks (Some n) → n ≤ answered_before marks
at_least job [] n h = absurd h
at_least job (Begins ∷ marks) n h = absurd h
at_least job (Acknowledged ∷ marks) n h = at_least job marks n h
at_least job (Refused ∷ marks) n h = at_least job marks n h
at_least job (Gave e ∷ marks) n h = at_least_by job marks (emitted_at (elements_given marks) e) n h (λ m k. at_least job marks m k)

-- the pages before the last image are those below its number
abbrev below : Option ℕ → List ℕ
below None = []
below (Some m) = all_below m

one_below : (m n : ℕ) → n ≡ m + 1 → m ∷ all_below m ≡ all_below n
one_below m n e = let q : n ≡ suc m = omega arith in ap all_below (sym q)

none_with : (r : Reply) → page_answered r (Some None) [] ≡ []
none_with Unasked = refl
none_with Asked = refl
none_with (Answered true) = refl
none_with (Answered false) = refl

answered_list : (last : Option ℕ) (r : Reply) (n : ℕ) → IsAnswered last r n → page_answered r (Some last) (below last) ≡ all_below n
answered_list None r n h = none_with r ∙ ap all_below (sym h)
answered_list (Some m) Unasked n h = absurd h
answered_list (Some m) Asked n h = absurd h
answered_list (Some m) (Answered true) n h = one_below m n h
answered_list (Some m) (Answered false) n h = ap all_below (sym h)

pages_by : (job : JobValue) (marks : List Mark) (o : Option Emission) (last : Option ℕ) → EmitsBy job o (replied marks) last (Emits job marks) →
    ((m : Option ℕ) → Emits job marks m → pages_before marks ≡ below m) → page_if o (replied marks) (numbered marks) (pages_before marks) ≡ below last
pages_by job marks None last h f = f last h
pages_by job marks (Some x) None h f = absurd h
pages_by job marks (Some x) (Some n) h f =
    ap (λ (u : Option (Option ℕ)). page_answered (replied marks) u (pages_before marks)) (numbers_are_fixed job marks h.1 h.2)
    ∙ ap (page_answered (replied marks) (Some h.1)) (f h.1 h.2)
    ∙ answered_list h.1 (replied marks) n h.3

pages_are : (job : JobValue) (marks : List Mark) (last : Option ℕ) → Emits job marks last → pages_before marks ≡ below last
pages_are job [] None h = refl
pages_are job [] (Some n) h = absurd h
pages_are job (Begins ∷ marks) None h = refl
pages_are job (Begins ∷ marks) (Some n) h = absurd h
pages_are job (Acknowledged ∷ marks) last h = pages_are job marks last h
pages_are job (Refused ∷ marks) last h = pages_are job marks last h
pages_are job (Gave e ∷ marks) last h = pages_by job marks (emitted_at (elements_given marks) e) last h (λ m k. pages_are job marks m k)

pub pages_told : (job : JobValue) (marks : List Mark) (last : Option ℕ) (x : Outcome) (n : ℕ) (events : List CallEvent) → Emits job marks last → IsAfter last (replied marks) n →
    CountsAnswers x n events marks → AnswersThePages x n events marks
pages_told job marks last x n events e h c = by last (replied marks) refl e h c
  where
    lists : (last : Option ℕ) → Emits job marks last → pages_answered marks ≡ page_answered (replied marks) (Some last) (below last)
    lists last e =
        ap (λ (u : Option (Option ℕ)). page_answered (replied marks) u (pages_before marks)) (numbers_are_fixed job marks last e)
        ∙ ap (page_answered (replied marks) (Some last)) (pages_are job marks last e)

    same : (m : ℕ) (r : Reply) → replied marks ≡ r → Emits job marks (Some m) → n ≡ m → n ≡ good_one r + answered_before marks → page_answered r (Some (Some m)) (all_below m) ≡ all_below n
    same m Unasked u e q k = ap all_below (sym q)
    same m Asked u e q k = ap all_below (sym q)
    same m (Answered false) u e q k = ap all_below (sym q)
    same m (Answered true) u e q k = let l : m ≤ answered_before marks = at_least job marks m e in absurd (omega (arith, k, q))

    good : (m : ℕ) (r : Reply) → n ≡ m + 1 → r ≡ Answered true → page_answered r (Some (Some m)) (all_below m) ≡ all_below n
    good m r q g = ap (λ (s : Reply). page_answered s (Some (Some m)) (all_below m)) g ∙ one_below m n q

    by : (last : Option ℕ) (r : Reply) → replied marks ≡ r → Emits job marks last → IsAfter last (replied marks) n → CountsAnswers x n events marks → AnswersThePages x n events marks
    by None r u e h c = inl (lists None e ∙ none_with (replied marks) ∙ ap all_below (sym h))
    by (Some m) r u e (inr h) c = inl (lists (Some m) e ∙ good m (replied marks) h.0 h.1)
    by (Some m) r u e (inl h) (inl k) = inl (lists (Some m) e ∙ same m (replied marks) refl e h k)
    by (Some m) r u e (inl h) (inr k) = inr (k.0, pages_are job marks (Some m) e ∙ ap all_below (sym h))
