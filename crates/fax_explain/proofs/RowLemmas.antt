-- Rows, one more.
use Rattle.std.proofs.Common.{◌≡◌, ◌+◌, ℕ, zero, suc, List, [], ◌∷◌, ◌++◌, Some, ◌∙◌, ap, arith, slice_get, take}

pub take_one_more : {T : Type 0} (xs : List T) (n : ℕ) (x : T) → slice_get xs n ≡ Some x → take (n + 1) xs ≡ take n xs ++ x ∷ []
take_one_more [] n x is = absurd (cc)
take_one_more {T} (y ∷ xs) zero x is = let same : y ≡ x = cc in ap (λ (z : T). z ∷ []) same
take_one_more {T} (y ∷ xs) (suc n) x is =
    let one : suc n + 1 ≡ suc (n + 1) = omega arith in
    ap (λ (m : ℕ). take m (y ∷ xs)) one ∙ ap (λ (l : List T). y ∷ l) (take_one_more xs n x is)
