-- What a ring may not go beyond: how many pages of a line may wait, and what all lines together may hold (this project's profile).
use Rattle.std.specs.Prelude.{ℕ, ◌+◌, Bool, true, false, ◌||◌, nat_eq, nat_le, nat_lt, sum, map, length, slice_get, List, Option, Some, None, is_some, if◌then◌else◌}
use Rattle.std.specs.List.{range_with_len}
use Rattle.fax_control.specs.declared.refusal.Refusal.TheVariants as refusal
use Rattle.fax_desk.specs.declared.card.Card.{Card}
use Rattle.fax_desk.specs.declared.next.Next.{Next}
use Rattle.fax_desk.specs.declared.view.LineView.{LineView}
use Rattle.fax_desk.specs.Words.{refuses}

-- A LINE IS FULL while as many of its pages wait as may.
abbrev pub is_full : Card → Bool
is_full card = nat_le card.limits.most_waiting card.waiting

abbrev pub is_full_if : Option Card → Bool
is_full_if None = false
is_full_if (Some card) = is_full card

abbrev pub is_full_at : List Card → ℕ → Bool
is_full_at cards i = is_full_if (slice_get cards i)

-- ---- WHAT LINES MAY COME TO HOLD: one with a call, or of which pages wait, as much as its limit says, and any other nothing

abbrev pub has_call : Option LineView → Bool
has_call None = false
has_call (Some line) = is_some line.call

abbrev pub may_hold : Card → Option LineView → ℕ
may_hold card line = if nat_lt 0 card.waiting || has_call line then card.limits.memory else 0

abbrev pub may_hold_if : Option Card → Option LineView → ℕ
may_hold_if None line = 0
may_hold_if (Some card) line = may_hold card line

-- what line j may come to hold, of the lines beside line i
abbrev pub other_may_hold : List Card → (ℕ → Option LineView) → (i j : ℕ) → ℕ
other_may_hold cards lines i j = if nat_eq i j then 0 else may_hold_if (slice_get cards j) (lines j)

abbrev pub others_may_hold : List Card → (ℕ → Option LineView) → ℕ → ℕ
others_may_hold cards lines i =
    sum (map (λ j. other_may_hold cards lines i j) (range_with_len 0 (length cards)))

abbrev pub memory_if : Option Card → ℕ
memory_if None = 0
memory_if (Some card) = card.limits.memory

-- THERE IS MEMORY for a call on line i where what all others may come to hold leaves as much as its limit says.
abbrev pub has_memory : Option ℕ → List Card → (ℕ → Option LineView) → ℕ → Bool
has_memory None cards lines i = true
has_memory (Some most) cards lines i =
    nat_le (others_may_hold cards lines i + memory_if (slice_get cards i)) most

-- what a ring comes to on a line that is full or not, and for which there is memory or not
abbrev pub bounded : (is_full has_memory : Bool) → Next → Next
bounded true has_memory to = refuses refusal.Full
bounded false false to = refuses refusal.NoMemory
bounded false true to = to
