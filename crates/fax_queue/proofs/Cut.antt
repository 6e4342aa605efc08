-- A list of which a test leaves just what stands after some place: it passes nothing before that, and all after it.
use Rattle.std.proofs.Common.{◌≡◌, ℕ, zero, suc, ◌≤◌, Bool, true, false, cond, List, [], ◌∷◌, length, drop, refl, sym, ap, subst, arith}
use Rattle.std.specs.List.{filter}

-- each passes
abbrev pub Pass : {X : Type 0} → (X → Bool) → List X → Type 0
Pass test [] = Unit {0}
Pass test (x ∷ xs) = (test x ≡ true) × Pass test xs

pass_one : {X : Type 0} (test : X → Bool) (x : X) (xs : List X) (b : Bool) → test x ≡ b → Pass test xs → Pass test (cond b (x ∷ xs) xs)
pass_one test x xs true is rest = (is, rest)
pass_one test x xs false is rest = rest

passed : {X : Type 0} (test : X → Bool) (xs : List X) → Pass test (filter test xs)
passed test [] = tt
passed test (x ∷ xs) = pass_one test x (filter test xs) (test x) refl (passed test xs)

longer : {X : Type 0} (x : X) (xs : List X) (b : Bool) → length xs ≤ length (cond b (x ∷ xs) xs)
longer x xs true = omega arith
longer x xs false = omega arith

all_pass : {X : Type 0} (test : X → Bool) (xs : List X) → Pass test xs → length xs ≤ length (filter test xs)
all_pass test [] are = omega arith
all_pass test (x ∷ xs) are =
    let low = all_pass test xs are.1 in
    subst (λ (b : Bool). suc (length xs) ≤ length (cond b (x ∷ filter test xs) (filter test xs))) (sym are.0) (omega (arith, low))

drop_pass : {X : Type 0} (test : X → Bool) (n : ℕ) (xs : List X) → Pass test (drop n xs) → length (drop n xs) ≤ length (filter test xs)
drop_pass test zero xs are = all_pass test xs are
drop_pass test (suc n) [] are = omega arith
drop_pass test (suc n) (x ∷ xs) are =
    let low = drop_pass test n xs are in
    let more = longer x (filter test xs) (test x) in
    omega (arith, low, more)

-- so one that passes is not before the place
pub none_before : {X : Type 0} (test : X → Bool) (n : ℕ) (x : X) (xs : List X) → test x ≡ true → x ∷ filter test xs ≡ drop n xs → ⊥
none_before {X} test n x xs is same =
    let low = drop_pass test n xs (subst (λ (l : List X). Pass test l) same (is, passed test xs)) in
    let long : suc (length (filter test xs)) ≡ length (drop n xs) = ap (λ (l : List X). length l) same in
    omega (arith, low, long)

pub fewer : {X : Type 0} (test : X → Bool) (xs : List X) → length (filter test xs) ≤ length xs
fewer test [] = omega arith
fewer test (x ∷ xs) =
    let low = fewer test xs in
    elim (test x) as (λ b. length (cond b (x ∷ filter test xs) (filter test xs)) ≤ suc (length xs)) [
      | true ↦ omega (arith, low)
      | false ↦ omega (arith, low)
    ]

pub none_after : {X : Type 0} (test : X → Bool) (x : X) (xs : List X) → filter test xs ≡ x ∷ xs → ⊥
none_after {X} test x xs same =
    let low = fewer test xs in
    let long : length (filter test xs) ≡ suc (length xs) = ap (λ (l : List X). length l) same in
    omega (arith, low, long)
