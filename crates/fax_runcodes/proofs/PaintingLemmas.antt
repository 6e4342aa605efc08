-- Run lengths in front of others: those that add to a width, and where they end.
use Rattle.std.proofs.Common.{◌≡◌, ℕ, zero, suc, ◌+◌, ◌-◌, ◌<◌, ◌≤◌, List, [], ◌∷◌, ◌++◌, length, take, drop, sum, get_or, All, refl, sym, ◌∙◌, ap, subst, arith, inl, inr, length-take, length-drop, length-append, replicate}
use Rattle.std.proofs.lemmas.Bool.{cases_lt}
use Rattle.std.proofs.lemmas.List.{take_all, get_or-take, get_or-drop, length-replicate}
use Rattle.std.proofs.lemmas.List.Elements.{All-nil, All-push}
use Rattle.std.proofs.lemmas.List.Sums.{sum_by_more, sum_by-cons}
use Rattle.std.proofs.Math.Seq.{take-append_seam}
use Rattle.fax_runcodes.specs.declared.Colour.{Colour}
use Rattle.fax_runcodes.specs.declared.Colour.TheVariants.{White}
use Rattle.fax_runcodes.specs.Rows.{Elements, AreRuns, stretches, other}
use Rattle.fax_runcodes.specs.Painted.{painted, changes_between, AreRising}
use Rattle.fax_runcodes.proofs.PaintedLemmas.{length-painted_all, rising_count}

-- where runs of these lengths end, from a place on
unfoldable pub ends_of : ℕ → List ℕ → List ℕ
ends_of from [] = []
ends_of from (n ∷ runs) = (from + n) ∷ ends_of (from + n) runs

pub ends_of-push : (from : ℕ) (runs : List ℕ) (n end : ℕ) → end ≡ from + sum runs + n → ends_of from (runs ++ n ∷ []) ≡ ends_of from runs ++ end ∷ []
unfolding ends_of
ends_of-push from [] n end e = let same : from + n ≡ end = omega arith in ap (λ (p : ℕ). p ∷ []) same
ends_of-push from (m ∷ runs) n end e =
    let same : end ≡ from + m + sum runs + n = omega (arith, sum_by-cons (λ (x : ℕ). x) m runs) in
    ap (λ (ps : List ℕ). (from + m) ∷ ps) (ends_of-push (from + m) runs n end same)

-- the changing places of runs are the ends of all but the last
pub changes_between-push : (from : ℕ) (runs : List ℕ) (n : ℕ) → changes_between from (runs ++ n ∷ []) ≡ ends_of from runs
unfolding ends_of changes_between
changes_between-push from [] n = refl
changes_between-push from (m ∷ []) n = refl
changes_between-push from (m ∷ k ∷ runs) n = ap (λ (ps : List ℕ). (from + m) ∷ ps) (changes_between-push (from + m) (k ∷ runs) n)

-- one more run, which is empty at most where it is the first
pub filled-push : (runs : List ℕ) (n : ℕ) → (0 < length runs → 0 < n) → All (λ k. 0 < k) (drop 1 runs) → All (λ k. 0 < k) (drop 1 (runs ++ n ∷ []))
filled-push [] n some filled = All-nil (λ (k : ℕ). 0 < k)
filled-push (m ∷ runs) n some filled = All-push (λ (k : ℕ). 0 < k) runs n filled (some (omega arith))

-- the first of numbers add to no more than more of them
sum_take_le : (xs : List ℕ) (n m : ℕ) → n ≤ m → sum (take n xs) ≤ sum (take m xs)
sum_take_le [] zero zero h = omega arith
sum_take_le [] zero (suc m) h = omega arith
sum_take_le [] (suc n) zero h = omega arith
sum_take_le [] (suc n) (suc m) h = omega arith
sum_take_le (x ∷ xs) zero m h = omega arith
sum_take_le (x ∷ xs) (suc n) zero h = absurd (omega arith)
sum_take_le (x ∷ xs) (suc n) (suc m) h =
    let e : sum (take n xs) ≤ sum (take m xs) = sum_take_le xs n m (omega arith) in
    omega (arith, sum_by-cons (λ (y : ℕ). y) x (take n xs), sum_by-cons (λ (y : ℕ). y) x (take m xs))

-- ---- no front adds to a width where the first i are less and the next is too long, or empty

pub none_at_end : (runs : List ℕ) (i width count : ℕ) → length runs ≤ i → sum (take i runs) < width → sum (take count runs) ≡ width → ⊥
none_at_end runs i width count all less adds = elim (cases_lt count i) [
  | inl few ↦ let le : sum (take count runs) ≤ sum (take i runs) = sum_take_le runs count i (omega arith) in omega arith
  | inr more ↦
      let whole : sum (take count runs) ≡ sum (take i runs) = ap sum (take_all count runs (omega arith) ∙ sym (take_all i runs all)) in
      omega arith
]

pub none_too_long : (runs : List ℕ) (i width count : ℕ) → i < length runs → sum (take i runs) < width → width < sum (take i runs) + get_or runs i 0 → sum (take count runs) ≡ width → ⊥
none_too_long runs i width count within less long adds = elim (cases_lt i count) [
  | inl more ↦
      let le : sum (take (i + 1) runs) ≤ sum (take count runs) = sum_take_le runs (i + 1) count (omega arith) in
      let next : sum (take (i + 1) runs) ≡ sum (take i runs) + get_or runs i 0 = sum_by_more (λ x. x) runs i 0 within in
      omega arith
  | inr few ↦ let le : sum (take count runs) ≤ sum (take i runs) = sum_take_le runs count i (omega arith) in omega arith
]

pub none_empty : (runs : List ℕ) (i width count : ℕ) → i < length runs → 0 < i → sum (take i runs) < width → get_or runs i 0 ≡ 0
    → sum (take count runs) ≡ width → All (λ n. 0 < n) (drop 1 (take count runs)) → ⊥
none_empty runs i width count within later less empty adds filled = elim (cases_lt i count) [
  | inl more ↦
      let there : i - 1 < length (drop 1 (take count runs)) = omega (arith, length-drop 1 (take count runs), length-take count runs) in
      let some : 0 < get_or (drop 1 (take count runs)) (i - 1) 0 = filled (i - 1) 0 there in
      let place : 1 + (i - 1) ≡ i = omega arith in
      let same : get_or (drop 1 (take count runs)) (i - 1) 0 ≡ get_or runs i 0 =
      get_or-drop 1 (take count runs) (i - 1) 0 ∙ ap (λ (k : ℕ). get_or (take count runs) k 0) place ∙ get_or-take count runs i 0 more in
      omega arith
  | inr few ↦ let le : sum (take count runs) ≤ sum (take i runs) = sum_take_le runs count i (omega arith) in omega arith
]

-- ---- the runs of a row

-- A row's runs add to its length.
length_stretches : (colour : Colour) (runs : List ℕ) → length (stretches colour runs) ≡ sum runs
length_stretches colour [] = refl
length_stretches colour (n ∷ runs) =
    length-append (replicate n colour) (stretches (other colour) runs)
    ∙ ap (λ (k : ℕ). k + length (stretches (other colour) runs)) (length-replicate n colour)
    ∙ ap (λ (k : ℕ). n + k) (length_stretches (other colour) runs)
    ∙ sym (sum_by-cons (λ (y : ℕ). y) n runs)

pub sum_of_runs : (runs : List ℕ) (row : Elements) → AreRuns runs row → sum runs ≡ length row
sum_of_runs runs row h = sym (ap length h.row_is ∙ length_stretches White runs)

-- no front of the runs adds to the width with no run but the first empty, so no row's runs stand in front
pub no_row_in_front : (width : ℕ) (runs : List ℕ) → ((count : ℕ) → sum (take count runs) ≡ width → All (λ n. 0 < n) (drop 1 (take count runs)) → ⊥)
    → (row : Elements) (first more : List ℕ) → length row ≡ width → AreRuns first row → runs ≡ first ++ more → ⊥
no_row_in_front width runs none row first more wide are is =
    let front : take (length first) runs ≡ first = ap (take (length first)) is ∙ take-append_seam first more in
    none (length first) (ap sum front ∙ sum_of_runs first row are ∙ wide) (subst (λ (ns : List ℕ). All (λ n. 0 < n) (drop 1 ns)) (sym front) are.not_empty)

-- changing places that paint nothing are none
pub painted_none : (ps : List ℕ) (end : ℕ) → AreRising 0 ps end → painted White 0 ps end ≡ [] → (ps ≡ []) × (end ≡ 0)
painted_none [] end r e = (refl, sym (length-painted_all [] end r) ∙ ap length e)
painted_none (p ∷ ps) end r e =
    let none : end ≡ 0 = sym (length-painted_all (p ∷ ps) end r) ∙ ap length e in
    let count : 0 + length (p ∷ ps) ≤ end = rising_count 0 (p ∷ ps) end r in
    absurd (omega arith)
