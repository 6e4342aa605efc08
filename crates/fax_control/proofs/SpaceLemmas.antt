-- Texts cut at their first space.
use Rattle.std.proofs.Common.{◌≡◌, ◌≢◌, ℕ, zero, suc, Bool, true, not, ◌&&◌, nat_eq, List, [], ◌∷◌, refl, sym, arith, Option, None, Some}
use Rattle.std.proofs.lemmas.Bool.{and_parts}
use Rattle.std.proofs.lemmas.Bool.Decides.{nat_tests}
use Rattle.std.specs.Option.{MatchOption, IfSome, IfNone}
use Rattle.fax_control.specs.Words.{HasNoSpace, spaced}

-- the heads and the tails of equal lists
pub heads : (x y : ℕ) (xs ys : List ℕ) → x ∷ xs ≡ y ∷ ys → x ≡ y
heads x y xs ys e = cc

pub tails : (x y : ℕ) (xs ys : List ℕ) → x ∷ xs ≡ y ∷ ys → xs ≡ ys
tails x y xs ys e = cc

-- what follows the first octet has no space either
pub NoSpace-tail : (x : ℕ) (xs : List ℕ) → HasNoSpace (x ∷ xs) → HasNoSpace xs
NoSpace-tail x xs none k within = none (suc k) (omega arith)

pub NoSpace-head : (x : ℕ) (xs : List ℕ) → HasNoSpace (x ∷ xs) → x ≢ 32
NoSpace-head x xs none = none 0 (omega arith)

-- a space stands between two texts
pub has_space : (first rest : List ℕ) → HasNoSpace (spaced first rest) → ⊥
has_space [] rest none = NoSpace-head 32 rest none refl
has_space (x ∷ first) rest none = has_space first rest (NoSpace-tail x (spaced first rest) none)

-- there is one way to cut a text at its first space
pub cut_once : (first rest other after : List ℕ) → HasNoSpace first → HasNoSpace other → spaced first rest ≡ spaced other after → (first ≡ other) × (rest ≡ after)
cut_once [] rest [] after p q e = (refl, tails 32 32 rest after e)
cut_once [] rest (y ∷ other) after p q e = absurd (NoSpace-head y other q (sym (heads 32 y rest (spaced other after) e)))
cut_once (x ∷ first) rest [] after p q e = absurd (NoSpace-head x first p (heads x 32 (spaced first rest) after e))
cut_once (x ∷ first) rest (y ∷ other) after p q e =
    let (same, left) = cut_once first rest other after (NoSpace-tail x first p) (NoSpace-tail y other q) (tails x y (spaced first rest) (spaced other after) e) in
    let head : x ≡ y = heads x y (spaced first rest) (spaced other after) e in
    (cc, left)

-- whether no octet of a text is a space
abbrev pub no_space : List ℕ → Bool
no_space [] = true
no_space (x ∷ xs) = not (nat_eq x 32) && no_space xs

-- a text that passes has no space
pub NoSpace-by_test : (xs : List ℕ) → no_space xs ≡ true → HasNoSpace xs
NoSpace-by_test [] passes k within = absurd (omega arith)
NoSpace-by_test (x ∷ xs) passes zero within = let head : not (nat_eq x 32) ≡ true = (and_parts (not (nat_eq x 32)) (no_space xs) passes).0 in λ same. grind (arith, nat_tests)
NoSpace-by_test (x ∷ xs) passes (suc k) within = NoSpace-by_test xs (and_parts (not (nat_eq x 32)) (no_space xs) passes).1 k (omega arith)

-- what is said of each answer holds of the one that was given
pub some_part : {X : Type 0} (r : Option X) (P : Type 0) (Q : X → Type 0) → MatchOption r P Q → IfSome r Q
some_part None P Q h = tt
some_part (Some x) P Q h = h

pub none_part : {X : Type 0} (r : Option X) (P : Type 0) (Q : X → Type 0) → MatchOption r P Q → IfNone r P
none_part None P Q h = h
none_part (Some x) P Q h = tt
