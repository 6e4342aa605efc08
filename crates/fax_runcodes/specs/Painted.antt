-- Elements by their changing places.
use Rattle.std.specs.Prelude.{ℕ, ◌+◌, ◌-◌, ◌%◌, ◌≤◌, ◌==◌, if◌then◌else◌, List, [], ◌∷◌, ◌++◌, replicate}
use Rattle.fax_runcodes.specs.declared.Colour.{Colour}
use Rattle.fax_runcodes.specs.declared.Colour.TheVariants.{White, Black}
use Rattle.fax_runcodes.specs.Rows.{Elements, other}

-- the elements from a place to an end, which begin in this colour and change it at these places
unfoldable pub painted : Colour → ℕ → List ℕ → ℕ → Elements
painted colour from [] end = replicate (end - from) colour
painted colour from (place ∷ places) end =
    replicate (place - from) colour ++ painted (other colour) place places end

-- where runs of these lengths end, but for the last run, from a place on
unfoldable pub changes_between : ℕ → List ℕ → List ℕ
changes_between from [] = []
changes_between from (n ∷ []) = []
changes_between from (n ∷ m ∷ runs) = (from + n) ∷ changes_between (from + n) (m ∷ runs)

-- the places rise, from this one on, and lie before the end
unfoldable pub AreRising : ℕ → List ℕ → ℕ → Type 0
AreRising from [] end = from ≤ end
AreRising from (place ∷ places) end = (from ≤ place) × AreRising (place + 1) places end

-- the colour after so many changes, white first
abbrev pub colour_after_changes : ℕ → Colour
colour_after_changes n = if n % 2 == 0 then White else Black
