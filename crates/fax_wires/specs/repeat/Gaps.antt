-- How long a datagram is waited for before it is sent again. (This project's profile.)
use Rattle.std.specs.Prelude.{ℕ, List, [], ◌∷◌, Option, Some, None, zero, suc}
use Rattle.fax_wires.specs.declared.repeat.policy.RepeatPolicy.{RepeatPolicy}
use Rattle.fax_wires.specs.declared.repeat.policy.RepeatPolicy.TheVariants as policy

-- the gaps between the sends of a datagram, in milliseconds, while nothing newer is handed over on its leg
abbrev pub gaps : RepeatPolicy → List ℕ
gaps policy.Full = 20 ∷ 40 ∷ 80 ∷ 160 ∷ 320 ∷ 640 ∷ []
gaps policy.Once = 40 ∷ []
gaps policy.Never = []

-- the gap at this place, counted from 1
abbrev pub gap_at : List ℕ → ℕ → Option ℕ
gap_at [] place = None
gap_at (gap ∷ more) zero = None
gap_at (gap ∷ more) (suc zero) = Some gap
gap_at (gap ∷ more) (suc (suc place)) = gap_at more (suc place)

-- the gap after so many sends
abbrev pub gap_after : RepeatPolicy → ℕ → Option ℕ
gap_after policy sends = gap_at (gaps policy) sends
