-- The lines that a client's octets make (this project's profile).
use Rattle.std.specs.Prelude.{◌≡◌, ◌≢◌, ℕ, ◌<◌, nat_le, List, ◌∷◌, ◌++◌, length, slice_index, Option, None, Some, if◌then◌else◌}
use Rattle.fax_control.specs.declared.hearing.HeardLine.{HeardLine}
use Rattle.fax_control.specs.declared.hearing.HeardLine.TheVariants.{Line, TooLong}

-- no octet of the text is a line feed
abbrev pub HasNoLineFeed : List ℕ → Type 0
HasNoLineFeed text = (k : ℕ) → k < length text → slice_index text k ≢ 10

-- a line that may be taken, or none: it has more than 256 octets
abbrev pub fitting : List ℕ → Option (List ℕ)
fitting line = if nat_le (length line) 256 then Some line else None

-- the octets of a line that was heard, or none where it was too long
abbrev pub octets_of_heard : HeardLine → Option (List ℕ)
octets_of_heard (Line octets) = Some octets.items
octets_of_heard TooLong = None

-- Octets that came are the end of a line, a line feed, and the rest; they tell nothing of how the line began.
pub record EndsALine (octets end rest : List ℕ) : Type 0 where
  pub cut : octets ≡ end ++ 10 ∷ rest
  pub in_one_line : HasNoLineFeed end
