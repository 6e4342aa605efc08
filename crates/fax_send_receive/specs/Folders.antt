-- FILES THAT HAVE NAMES, as contracts see them. (This project's profile.)
use Rattle.std.specs.Prelude.{◌≡◌, ℕ, List, ◌∷◌, Option, Some, None, IfSome}

-- a file that was made whole: its name, and all its octets
pub record FileValue : Type 0 where
  pub name : List ℕ
  pub octets : List ℕ

-- Where files are known, they are now one more: the newest has this name, and what was written to it.
abbrev pub IsAdded : (before after : Option (List FileValue))
    → (name : List ℕ) → (written : Option (List ℕ)) → Type 0
IsAdded before after name written = IfSome before (λ files.
    IfSome written (λ octets. after ≡ Some (record { name = name; octets = octets } ∷ files)))

-- Where the octets of a file are known, these are they.
abbrev pub AreOctetsOf : (known : Option (List ℕ)) → List ℕ → Type 0
AreOctetsOf known file = IfSome known (λ octets. octets ≡ file)
