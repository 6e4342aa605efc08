-- Confirmations are cut in one way, and each page stands in one job. Of two beginnings of one list, either they are the same,
-- or one is longer.
use Rattle.std.proofs.Common.{◌≡◌, ℕ, ◌+◌, ◌<◌, ◌≤◌, ◌⊎◌, inl, inr, true, false, List, [], ◌∷◌, ◌++◌, length, refl, sym, ◌∙◌, ap, subst, arith, length-append}
use Rattle.fax_runcodes.specs.declared.format.Format.{Format}
use Rattle.fax_pagestore.specs.Pages.{PageValue}
use Rattle.fax_jobs.specs.Jobs.{JobValue, most_pages, IsOfFirst}
use Rattle.fax_jobs.specs.Cuts.{Confirmation, pages_by, NoneButLast, EndsByEop, IsJobOf, IsCutOf, CutsAreOne, pages_of, HoldsEachPageOnce}

abbrev Longer : List Confirmation → List Confirmation → List Confirmation → Type 0
Longer short long others = (x : Confirmation) × (more : List Confirmation) × (long ≡ short ++ x ∷ more) × (rest : List Confirmation) × (others ≡ x ∷ rest)

beginnings : (a b o p : List Confirmation) → a ++ o ≡ b ++ p → ((a ≡ b) × (o ≡ p)) ⊎ Longer a b o ⊎ Longer b a p
beginnings [] [] o p h = inl (refl, h)
beginnings [] (y ∷ b) o p h = inr (inl (y, b, refl, b ++ p, h))
beginnings (x ∷ a) [] o p h = inr (inr (x, a, refl, a ++ o, sym h))
beginnings (x ∷ a) (y ∷ b) o p h =
    let e : x ≡ y = cc in
    let t : a ++ o ≡ b ++ p = cc in
    by e (beginnings a b o p t)
  where
    by : x ≡ y → ((a ≡ b) × (o ≡ p)) ⊎ Longer a b o ⊎ Longer b a p → ((x ∷ a ≡ y ∷ b) × (o ≡ p)) ⊎ Longer (x ∷ a) (y ∷ b) o ⊎ Longer (y ∷ b) (x ∷ a) p
    by e (inl s) = inl (ap (λ (c : Confirmation). c ∷ a) e ∙ ap (λ (cs : List Confirmation). y ∷ cs) s.0, s.1)
    by e (inr (inl l)) = inr (inl (l.0, l.1, ap (λ (cs : List Confirmation). y ∷ cs) l.2 ∙ ap (λ (c : Confirmation). c ∷ (a ++ l.0 ∷ l.1)) (sym e), l.3, l.4))
    by e (inr (inr l)) = inr (inr (l.0, l.1, ap (λ (cs : List Confirmation). x ∷ cs) l.2 ∙ ap (λ (c : Confirmation). c ∷ (b ++ l.0 ∷ l.1)) e, l.3, l.4))

eop_in_front : (a : List Confirmation) (x : Confirmation) (more : List Confirmation) → NoneButLast (a ++ x ∷ more) → EndsByEop a → ⊥
eop_in_front [] x more l e = e
eop_in_front (c ∷ []) x more l e = let q : false ≡ true = sym l.0 ∙ e in cc
eop_in_front (c ∷ d ∷ a) x more l e = eop_in_front (d ∷ a) x more l.1 e

none_longer : (call : ℕ) (short long others rest : List Confirmation) (j k : JobValue) → IsJobOf call short others j → IsJobOf call long rest k → Longer short long others → ⊥
none_longer call short long others rest j k a b l =
    by a.why
  where
    by : (others ≡ []) ⊎ EndsByEop short ⊎ (length short ≡ most_pages) → ⊥
    by (inl e) = let q : l.0 ∷ l.3 ≡ [] = sym l.4 ∙ e in cc
    by (inr (inl e)) = eop_in_front short l.0 l.1 (subst NoneButLast l.2 b.eop_at_end) e
    by (inr (inr n)) =
        let m : length long ≡ length short + length (l.0 ∷ l.1) = ap (λ (cs : List Confirmation). length cs) l.2 ∙ length-append short (l.0 ∷ l.1) in
        let most : length long ≤ most_pages = b.few in
        omega arith

first_format : (pages : List PageValue) (f g : Format) → IsOfFirst f pages → IsOfFirst g pages → f ≡ g
first_format [] f g a b = absurd a
first_format (page ∷ pages) f g a b = a ∙ sym b

same_job : (call : ℕ) (own others rest : List Confirmation) (j k : JobValue) → IsJobOf call own others j → IsJobOf call own rest k → j ≡ k
same_job call own others rest j k a b =
    let F : ℕ → Format → List PageValue → JobValue = λ n f ps. record { call = n; format = f; pages = ps } in
    let c : j.call ≡ k.call = a.same_call ∙ sym b.same_call in
    let p : j.pages ≡ k.pages = a.same_pages ∙ sym b.same_pages in
    let f : j.format ≡ k.format = first_format k.pages j.format k.format (subst (IsOfFirst j.format) p a.of_first) b.of_first in
    ap (λ (n : ℕ). F n j.format j.pages) c ∙ ap (λ (g : Format). F k.call g j.pages) f ∙ ap (λ (ps : List PageValue). F k.call k.format ps) p

some_job : (call : ℕ) (own others : List Confirmation) (job : JobValue) → IsJobOf call own others job → own ++ others ≡ [] → ⊥
some_job call [] others job j e = let l : 0 < length {A = Confirmation} [] = j.some in absurd (omega arith)
some_job call (c ∷ own) others job j e = cc

pub cuts_are_one : CutsAreOne
cuts_are_one call cs [] [] a b = refl
cuts_are_one call cs [] (k ∷ others) a b = absurd (some_job call b.0 b.1 k b.3 (sym b.2 ∙ a))
cuts_are_one call cs (j ∷ jobs) [] a b = absurd (some_job call a.0 a.1 j a.3 (sym a.2 ∙ b))
cuts_are_one call cs (j ∷ jobs) (k ∷ others) a b = by (beginnings a.0 b.0 a.1 b.1 (sym a.2 ∙ b.2)) (cuts_are_one call a.1 jobs others a.4)
  where
    by : ((a.0 ≡ b.0) × (a.1 ≡ b.1)) ⊎ Longer a.0 b.0 a.1 ⊎ Longer b.0 a.0 b.1 → (IsCutOf call a.1 others → jobs ≡ others) → j ∷ jobs ≡ k ∷ others
    by (inl s) f =
        let first : j ≡ k = same_job call a.0 a.1 b.1 j k a.3 (subst (λ (own : List Confirmation). IsJobOf call own b.1 k) (sym s.0) b.3) in
        let further : jobs ≡ others = f (subst (λ (rest : List Confirmation). IsCutOf call rest others) (sym s.1) b.4) in
        ap (λ (x : JobValue). x ∷ jobs) first ∙ ap (λ (xs : List JobValue). k ∷ xs) further
    by (inr (inl l)) f = absurd (none_longer call a.0 b.0 a.1 b.1 j k a.3 b.3 l)
    by (inr (inr l)) f = absurd (none_longer call b.0 a.0 b.1 a.1 k j b.3 a.3 l)

-- each page stands in one job
pages_append : (cs more : List Confirmation) → pages_by (cs ++ more) ≡ pages_by cs ++ pages_by more
pages_append [] more = refl
pages_append (c ∷ cs) more = ap (λ (ps : List PageValue). c.page ∷ ps) (pages_append cs more)

pub holds_each_page_once : HoldsEachPageOnce
holds_each_page_once call cs [] h = sym (ap pages_by h)
holds_each_page_once call cs (job ∷ jobs) h =
    ap (λ (ps : List PageValue). ps ++ pages_of jobs) h.3.same_pages
    ∙ ap (λ (ps : List PageValue). pages_by h.0 ++ ps) (holds_each_page_once call h.1 jobs h.4)
    ∙ sym (pages_append h.0 h.1)
    ∙ sym (ap pages_by h.2)
