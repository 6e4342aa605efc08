-- Texts in which no line feed stands, and texts that are cut at their first one.
use Rattle.std.proofs.Common.{◌≡◌, ◌≢◌, ℕ, zero, suc, List, [], ◌∷◌, ◌++◌, refl, sym, arith}
use Rattle.fax_control.specs.ClientStreams.{HasNoLineFeed}

heads : (x y : ℕ) (xs ys : List ℕ) → x ∷ xs ≡ y ∷ ys → x ≡ y
heads x y xs ys e = cc

tails : (x y : ℕ) (xs ys : List ℕ) → x ∷ xs ≡ y ∷ ys → xs ≡ ys
tails x y xs ys e = cc

head_is_none : (x : ℕ) (xs : List ℕ) → HasNoLineFeed (x ∷ xs) → x ≢ 10
head_is_none x xs none = none 0 (omega arith)

tail_has_none : (x : ℕ) (xs : List ℕ) → HasNoLineFeed (x ∷ xs) → HasNoLineFeed xs
tail_has_none x xs none k within = none (suc k) (omega arith)

pub empty_has_none : HasNoLineFeed []
empty_has_none k within = absurd (omega arith)

pub joined_have_none : (xs ys : List ℕ) → HasNoLineFeed xs → HasNoLineFeed ys → HasNoLineFeed (xs ++ ys)
joined_have_none [] ys p q k within = q k within
joined_have_none (x ∷ xs) ys p q zero within = head_is_none x xs p
joined_have_none (x ∷ xs) ys p q (suc k) within = joined_have_none xs ys (tail_has_none x xs p) q k (omega arith)

-- a line feed stands between two texts
pub one_stands_between : (first rest : List ℕ) → HasNoLineFeed (first ++ 10 ∷ rest) → ⊥
one_stands_between [] rest none = head_is_none 10 rest none refl
one_stands_between (x ∷ first) rest none = one_stands_between first rest (tail_has_none x (first ++ 10 ∷ rest) none)

-- there is one way to cut a text at its first line feed
pub cut_once : (first rest other after : List ℕ) → HasNoLineFeed first → HasNoLineFeed other → first ++ 10 ∷ rest ≡ other ++ 10 ∷ after
    → (first ≡ other) × (rest ≡ after)
cut_once [] rest [] after p q e = (refl, tails 10 10 rest after e)
cut_once [] rest (y ∷ other) after p q e = absurd (head_is_none y other q (sym (heads 10 y rest (other ++ 10 ∷ after) e)))
cut_once (x ∷ first) rest [] after p q e = absurd (head_is_none x first p (heads x 10 (first ++ 10 ∷ rest) after e))
cut_once (x ∷ first) rest (y ∷ other) after p q e =
    let (same, left) = cut_once first rest other after (tail_has_none x first p) (tail_has_none y other q) (tails x y (first ++ 10 ∷ rest) (other ++ 10 ∷ after) e) in
    let head : x ≡ y = heads x y (first ++ 10 ∷ rest) (other ++ 10 ∷ after) e in
    (cc, left)
