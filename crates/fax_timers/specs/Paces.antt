-- The pace of a leg: what its last packet lets through (this project's profile).
use Rattle.std.specs.Prelude.{ℕ, ◌+◌, ◌≤◌, min, nat_le, Bool, true, Option, Some, None, if◌then◌else◌}
use Rattle.fax_timers.specs.Spans.{pace, longest_pause}
use Rattle.fax_timers.specs.declared.pace.LastPacket.{LastPacket}

-- the pace of a leg: the pause that is set after a preamble, and the last packet, where one was given
pub record PaceValue : Type 0 where
  pub pause : ℕ
  pub last : Option LastPacket

abbrev pub new_pace : ℕ → PaceValue
new_pace pause = record { pause = pause; last = None }

-- the first packet waits for nothing, and each other one for the span after the last
abbrev pub pace_allows : Option LastPacket → ℕ → Bool
pace_allows None now = true
pace_allows (Some last) now = nat_le (last.at + last.span) now

-- the moment from which on it lets a packet through
abbrev pub allowed_from : Option LastPacket → ℕ
allowed_from None = 0
allowed_from (Some last) = last.at + last.span

-- a packet is given: after a preamble the span is the pause, at most the longest one
abbrev pub packet_at : (is_preamble : Bool) → (pause now : ℕ) → LastPacket
packet_at is_preamble pause now =
    record { at = now; span = if is_preamble then min pause longest_pause else pace }

abbrev pub pace_after : (is_preamble : Bool) → PaceValue → (now : ℕ) → PaceValue
pace_after is_preamble p now =
    record { pause = p.pause; last = Some (packet_at is_preamble p.pause now) }

-- a pause within its limits: no shorter than after each other packet
abbrev pub IsPause : ℕ → Type 0
IsPause ms = (pace ≤ ms) × (ms ≤ longest_pause)
