-- Moments, in milliseconds (this project's profile; the timers are those of ITU-T T.30, 5.4.3).
use Rattle.std.specs.Prelude.{ℕ, ◌+◌, ◌-◌, ◌^◌, min, max, nat_le, nat_lt, Bool, false, List, [], ◌∷◌, Option, Some, None, ◌≡◌, ◌≤◌, if◌then◌else◌}

-- the latest of the moments read, 0 where none was
abbrev pub latest : List ℕ → ℕ
latest [] = 0
latest (now ∷ read) = max now (latest read)

-- the moment so long after now, at most the last one
abbrev pub moment_after : ℕ → ℕ → ℕ
moment_after now ms = min (now + ms) (2 ^ 64 - 1)

-- a timer is due where it is set and its moment has come
abbrev pub IsDue : Option ℕ → ℕ → Type 0
IsDue timer now = (moment : ℕ) × (timer ≡ Some moment) × (moment ≤ now)

-- the same as a test
abbrev pub is_due : Option ℕ → ℕ → Bool
is_due None now = false
is_due (Some moment) now = nat_le moment now

-- a moment as a clock of 64 bits comes to it: there is none after the last one
abbrev pub on_clock : ℕ → Option ℕ
on_clock moment = if nat_lt moment (2 ^ 64) then Some moment else None

-- the earlier of two moments, where there is one
abbrev pub earlier : Option ℕ → Option ℕ → Option ℕ
earlier None other = other
earlier (Some moment) None = Some moment
earlier (Some moment) (Some other) = Some (min moment other)
