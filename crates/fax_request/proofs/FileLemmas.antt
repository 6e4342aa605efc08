-- The texts of an option that may be given many times.
use Rattle.std.proofs.Common.{◌≡◌, ◌∙◌, ℕ, List, [], Option, Some, ap, map}
use Rattle.std.specs.Prelude.{IfOk, Result, Ok, Err, unwrap_or}
use Rattle.std.specs.Borrow.{Bor}

-- a list of the texts that were given, where it could be made
pub listed : {V E : Type 0} (items : V → List (Bor (List ℕ))) (made : Result V E) (texts : List (Bor (List ℕ))) (values : Option (List (List ℕ)))
    → IfOk made (λ list. items list ≡ texts) → Some (map (λ text. text.now) texts) ≡ values
    → IfOk made (λ list. map (λ text. text.now) (items list) ≡ unwrap_or values [])
listed items (Ok list) texts values is same = ap (map (λ text. text.now)) is ∙ ap (λ found. unwrap_or found []) same
listed items (Err e) texts values is same = tt
