-- Words that are said, with one space between.
use Rattle.std.proofs.Common.{◌≡◌, ◌∙◌, ◌∷◌, ◌++◌, ℕ, List, [], Option, Some, ap, map, refl}
use Rattle.std.specs.Prelude.{IfOk, Result, Ok, Err, flat_map, unwrap_or}
use Rattle.std.specs.List.{join_by}
use Rattle.std.specs.Borrow.{Bor}

after : (separator : List ℕ) (words : List (Bor (List ℕ))) → flat_map (λ word. separator ++ word.now) words ≡ flat_map (λ word. separator ++ word) (map (λ word. word.now) words)
after separator [] = refl
after separator (word ∷ words) = ap (λ rest. (separator ++ word.now) ++ rest) (after separator words)

-- words, and their texts
joined : (separator : List ℕ) (words : List (Bor (List ℕ))) → join_by (λ word. word.now) separator words ≡ join_by (λ word. word) separator (map (λ word. word.now) words)
joined separator [] = refl
joined separator (word ∷ words) = ap (λ rest. word.now ++ rest) (after separator words)

-- the text of the words that were given, where it could be made
pub said : {V E : Type 0} (octets : V → List ℕ) (made : Result V E) (separator : List ℕ) (words : List (Bor (List ℕ))) (values : Option (List (List ℕ)))
    → IfOk made (λ text. octets text ≡ join_by (λ word. word.now) separator words) → Some (map (λ word. word.now) words) ≡ values
    → IfOk made (λ text. octets text ≡ join_by (λ word. word) separator (unwrap_or values []))
said octets (Ok text) separator words values is same = is ∙ joined separator words ∙ ap (λ found. join_by (λ word. word) separator (unwrap_or found [])) same
said octets (Err e) separator words values is same = tt
