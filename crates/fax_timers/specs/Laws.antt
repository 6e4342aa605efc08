-- What holds of timers.
use Rattle.std.specs.Prelude.{ℕ, ◌≤◌, Option, IsTrue, ◌↔◌}
use Rattle.fax_timers.specs.Moments.{is_due, IsDue}
use Rattle.fax_timers.specs.declared.pace.LastPacket.{LastPacket}
use Rattle.fax_timers.specs.Paces.{pace_allows, allowed_from}

-- the test says when a timer is due
abbrev pub DueIsTested : Type 0
DueIsTested = (timer : Option ℕ) (now : ℕ) → IsTrue (is_due timer now) ↔ IsDue timer now

-- a packet is let through from that moment on
abbrev pub IsAllowedFrom : Type 0
IsAllowedFrom = (last : Option LastPacket) (now : ℕ)
    → IsTrue (pace_allows last now) ↔ (allowed_from last ≤ now)
