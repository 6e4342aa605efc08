-- A row has one list of runs.
use Rattle.std.proofs.Common.{◌≡◌, ℕ, zero, suc, ◌<◌, List, [], ◌∷◌, ◌++◌, length, replicate, All, refl, sym, ◌∙◌, ap, arith}
use Rattle.std.proofs.lemmas.List.{append_cancel_left}
use Rattle.std.proofs.lemmas.List.Elements.{All-head, All-tail}
use Rattle.fax_runcodes.specs.declared.Colour.{Colour}
use Rattle.fax_runcodes.specs.declared.Colour.TheVariants.{White, Black}
use Rattle.fax_runcodes.specs.Rows.{Elements, other, stretches}
use Rattle.fax_runcodes.specs.RowLaws.{RunsOfRowsAreUnique}

-- elements do not begin in a colour
abbrev BeginsOtherwise : Colour → Elements → Type 0
BeginsOtherwise colour es = (rest : Elements) → es ≡ colour ∷ rest → ⊥

-- no run is empty
abbrev AreFilled : List ℕ → Type 0
AreFilled runs = All (λ n. 0 < n) runs

-- stretches that are filled begin in the first colour
stretches_begin : (colour : Colour) (runs : List ℕ) → AreFilled runs → BeginsOtherwise colour (stretches (other colour) runs)
stretches_begin White [] some rest e = cc
stretches_begin Black [] some rest e = cc
stretches_begin White (zero ∷ runs) some rest e = let none : 0 < 0 = All-head (λ (n : ℕ). 0 < n) 0 runs some in absurd (omega arith)
stretches_begin Black (zero ∷ runs) some rest e = let none : 0 < 0 = All-head (λ (n : ℕ). 0 < n) 0 runs some in absurd (omega arith)
stretches_begin White (suc n ∷ runs) some rest e = cc
stretches_begin Black (suc n ∷ runs) some rest e = cc

-- the first run's length is where another colour begins
front_is : (colour : Colour) (n m : ℕ) (xs ys : Elements) → BeginsOtherwise colour xs → BeginsOtherwise colour ys
    → replicate n colour ++ xs ≡ replicate m colour ++ ys → n ≡ m
front_is colour zero zero xs ys p q e = refl
front_is colour zero (suc m) xs ys p q e = absurd (p (replicate m colour ++ ys) e)
front_is colour (suc n) zero xs ys p q e = absurd (q (replicate n colour ++ xs) (sym e))
front_is colour (suc n) (suc m) xs ys p q e = let rest : replicate n colour ++ xs ≡ replicate m colour ++ ys = cc in ap suc (front_is colour n m xs ys p q rest)

-- two lists of runs that agree in what they paint agree in the first run, and the others do again
first_is : (colour : Colour) (n m : ℕ) (a b : List ℕ) → AreFilled a → AreFilled b → stretches colour (n ∷ a) ≡ stretches colour (m ∷ b)
    → (n ≡ m) × (stretches (other colour) a ≡ stretches (other colour) b)
first_is colour n m a b some more e =
    let same : n ≡ m = front_is colour n m (stretches (other colour) a) (stretches (other colour) b) (stretches_begin colour a some) (stretches_begin colour b more) e in
    (same, append_cancel_left (replicate n colour) (stretches (other colour) a) (stretches (other colour) b) (e ∙ ap (λ k. replicate k colour ++ stretches (other colour) b) (sym same)))

-- stretches of filled runs are of one list of them
filled_one : (colour : Colour) (a b : List ℕ) → AreFilled a → AreFilled b → stretches colour a ≡ stretches colour b → a ≡ b
filled_one colour [] [] some more e = refl
filled_one colour [] (zero ∷ b) some more e = let none : 0 < 0 = All-head (λ (n : ℕ). 0 < n) 0 b more in absurd (omega arith)
filled_one colour [] (suc m ∷ b) some more e = cc
filled_one colour (zero ∷ a) [] some more e = let none : 0 < 0 = All-head (λ (n : ℕ). 0 < n) 0 a some in absurd (omega arith)
filled_one colour (suc n ∷ a) [] some more e = cc
filled_one colour (n ∷ a) (m ∷ b) some more e =
    let tail : AreFilled a = All-tail (λ (k : ℕ). 0 < k) n a some in
    let others : AreFilled b = All-tail (λ (k : ℕ). 0 < k) m b more in
    let first : (n ≡ m) × (stretches (other colour) a ≡ stretches (other colour) b) = first_is colour n m a b tail others e in
    let rest : a ≡ b = filled_one (other colour) a b tail others first.1 in
    ap (λ k. k ∷ a) first.0 ∙ ap (λ (ns : List ℕ). m ∷ ns) rest

-- a row of some element has one list of runs
pub runs_one : RunsOfRowsAreUnique
runs_one [] b row some r s = let none : length row ≡ 0 = ap length r.row_is in absurd (omega arith)
runs_one (n ∷ a) [] row some r s = let none : length row ≡ 0 = ap length s.row_is in absurd (omega arith)
runs_one (n ∷ a) (m ∷ b) row some r s =
    let first : (n ≡ m) × (stretches Black a ≡ stretches Black b) = first_is White n m a b r.not_empty s.not_empty (sym r.row_is ∙ s.row_is) in
    let rest : a ≡ b = filled_one Black a b r.not_empty s.not_empty first.1 in
    ap (λ k. k ∷ a) first.0 ∙ ap (λ (ns : List ℕ). m ∷ ns) rest
