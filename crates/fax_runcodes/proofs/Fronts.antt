-- Lists of bits of which one begins another, as tests that compute.
use Rattle.std.proofs.Common.{◌≡◌, ◌≢◌, ◌⊎◌, Bool, true, false, List, [], ◌∷◌, ◌++◌, refl, sym, ◌∙◌, ap, inl, inr}
use Rattle.std.proofs.lemmas.List.{append_cancel_left}

-- one of two lists begins the other
abbrev pub agree : List Bool → List Bool → Bool
agree [] ys = true
agree (x ∷ xs) [] = true
agree (true ∷ xs) (true ∷ ys) = agree xs ys
agree (true ∷ xs) (false ∷ ys) = false
agree (false ∷ xs) (true ∷ ys) = false
agree (false ∷ xs) (false ∷ ys) = agree xs ys

-- the first list begins the second
abbrev pub begins : List Bool → List Bool → Bool
begins [] ys = true
begins (x ∷ xs) [] = false
begins (true ∷ xs) (true ∷ ys) = begins xs ys
begins (true ∷ xs) (false ∷ ys) = false
begins (false ∷ xs) (true ∷ ys) = false
begins (false ∷ xs) (false ∷ ys) = begins xs ys

-- two fronts of one list agree
pub agree_fronts : (xs ys x y : List Bool) → xs ++ x ≡ ys ++ y → agree xs ys ≡ true
agree_fronts [] ys x y e = refl
agree_fronts (a ∷ xs) [] x y e = refl
agree_fronts (true ∷ xs) (true ∷ ys) x y e = let tails : xs ++ x ≡ ys ++ y = cc in agree_fronts xs ys x y tails
agree_fronts (true ∷ xs) (false ∷ ys) x y e = cc
agree_fronts (false ∷ xs) (true ∷ ys) x y e = cc
agree_fronts (false ∷ xs) (false ∷ ys) x y e = let tails : xs ++ x ≡ ys ++ y = cc in agree_fronts xs ys x y tails

-- what a list goes on with after one that begins it
pub begins_rest : (xs ys : List Bool) → begins xs ys ≡ true → (rest : List Bool) × (ys ≡ xs ++ rest)
begins_rest [] ys h = (ys, refl)
begins_rest (x ∷ xs) [] h = cc
begins_rest (true ∷ xs) (true ∷ ys) h = let r : (rest : List Bool) × (ys ≡ xs ++ rest) = begins_rest xs ys h in (r.0, ap (λ l. true ∷ l) r.1)
begins_rest (true ∷ xs) (false ∷ ys) h = cc
begins_rest (false ∷ xs) (true ∷ ys) h = cc
begins_rest (false ∷ xs) (false ∷ ys) h = let r : (rest : List Bool) × (ys ≡ xs ++ rest) = begins_rest xs ys h in (r.0, ap (λ l. false ∷ l) r.1)

pub agree_comm : (xs ys : List Bool) → agree xs ys ≡ agree ys xs
agree_comm [] [] = refl
agree_comm [] (y ∷ ys) = refl
agree_comm (x ∷ xs) [] = refl
agree_comm (true ∷ xs) (true ∷ ys) = agree_comm xs ys
agree_comm (true ∷ xs) (false ∷ ys) = refl
agree_comm (false ∷ xs) (true ∷ ys) = refl
agree_comm (false ∷ xs) (false ∷ ys) = agree_comm xs ys

-- ---- whether one list begins another

-- Two bits are one, or not.
pub same_bit : (a b : Bool) → (a ≡ b) ⊎ (a ≢ b)
same_bit true true = inl refl
same_bit true false = inr (λ e. cc)
same_bit false true = inr (λ e. cc)
same_bit false false = inl refl

-- The first list begins the second, or does not.
pub begins_or_not : (xs ys : List Bool) → ((rest : List Bool) × (ys ≡ xs ++ rest)) ⊎ ((rest : List Bool) → ys ≡ xs ++ rest → ⊥)
begins_or_not [] ys = inl (ys, refl)
begins_or_not (x ∷ xs) [] = inr (λ rest e. cc)
begins_or_not (x ∷ xs) (y ∷ ys) = elim (same_bit y x) [
  | inr apart ↦ inr (λ rest e. (let whole : y ∷ ys ≡ x ∷ (xs ++ rest) = e in let heads : y ≡ x = cc in apart heads))
  | inl same ↦ elim (begins_or_not xs ys) [
    | inl more ↦ inl (more.0, ap (λ (b : Bool). b ∷ ys) same ∙ ap (λ l. x ∷ l) more.1)
    | inr none ↦ inr (λ rest e. (let whole : y ∷ ys ≡ x ∷ (xs ++ rest) = e in let tails : ys ≡ xs ++ rest = cc in none rest tails))
  ]
]

-- where it begins the second, something is left of that, or nothing
inside_with : (xs ys more : List Bool) → ys ≡ xs ++ more
    → ((more : List Bool) × (more ≢ []) × (ys ≡ xs ++ more)) ⊎ ((more : List Bool) → more ≢ [] → ys ≡ xs ++ more → ⊥)
inside_with xs ys [] e = inr (λ more some f. some (append_cancel_left xs more [] (sym f ∙ e)))
inside_with xs ys (b ∷ more) e = inl (b ∷ more, (λ h. cc), e)

-- The first list ends inside the second, or does not.
pub inside_or_not : (xs ys : List Bool) → ((more : List Bool) × (more ≢ []) × (ys ≡ xs ++ more)) ⊎ ((more : List Bool) → more ≢ [] → ys ≡ xs ++ more → ⊥)
inside_or_not xs ys = elim (begins_or_not xs ys) [
  | inl begins ↦ inside_with xs ys begins.0 begins.1
  | inr none ↦ inr (λ more some e. none more e)
]
