-- The first of a list that passes a test, seen through a view.
use Rattle.std.proofs.Common.{◌≡◌, Bool, true, false, cond, List, [], ◌∷◌, map, Option, Some, refl}
use Rattle.std.specs.Prelude.{find, option_map}

found_step : {A B : Type 0} (view : A → B) (x : A) (xs : Option A) (zs : Option B) (b : Bool) → option_map view xs ≡ zs → option_map view (cond b (Some x) xs) ≡ cond b (Some (view x)) zs
found_step view x xs zs true same = refl
found_step view x xs zs false same = same

pub found_view : {A B : Type 0} (view : A → B) (test : B → Bool) (xs : List A) → option_map view (find (λ x. test (view x)) xs) ≡ find test (map view xs)
found_view view test [] = refl
found_view view test (x ∷ xs) = found_step view x (find (λ y. test (view y)) xs) (find test (map view xs)) (test (view x)) (found_view view test xs)
