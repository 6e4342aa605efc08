-- How a gateway is set up. (This project's profile.)
use Rattle.std.specs.Prelude.{◌≡◌, ℕ, ◌≤◌, max, min, Bool, List, []}
use Rattle.fax_timers.specs.Paces.{IsPause}
use Rattle.fax_timers.specs.Spans.{longest_pause, pace}
use Rattle.fax_udptl.specs.Sending.{most_redundancy}
use Rattle.fax_gateway.specs.declared.settings.Settings.{Settings}
use Rattle.fax_gateway.specs.Restored.{RestoredCall, pages_restored, ArePages}

-- What is set for both legs: how many of the packets before its own each datagram has, and the pause after a preamble. Whether
-- a job's call is asked for, and begins when it is placed. And the calls that it is restored with, the oldest first: a new gateway
-- has none.
pub record Setup : Type 0 where
  pub redundancy : ℕ
  pub few : redundancy ≤ most_redundancy
  pub pause : ℕ
  pub is_pause : IsPause pause
  pub asks : Bool
  pub restored : List RestoredCall
  pub are_pages : ArePages (pages_restored restored)

-- the settings of this setup
pub record HasSettings (setup : Setup) (settings : Settings) : Type 0 where
  pub redundancy : settings.redundancy ≡ setup.redundancy
  pub pause : settings.preamble_ms ≡ setup.pause
  pub asks : settings.asks ≡ setup.asks

-- and it is restored with these calls
pub record AreSetWith (setup : Setup) (settings : Settings) (calls : List RestoredCall) :
    Type 0 where
  pub set : HasSettings setup settings
  pub restored : setup.restored ≡ calls

-- with none: a new gateway
abbrev pub AreSet : Setup → Settings → Type 0
AreSet setup settings = AreSetWith setup settings []

-- settings within their limits
abbrev pub AreAllowed : Settings → Type 0
AreAllowed settings = (settings.redundancy ≤ most_redundancy) × IsPause settings.preamble_ms

-- the same settings within their limits: what is beyond one reads as it
abbrev pub within_limits : Settings → Settings
within_limits settings = record settings {
  redundancy = min settings.redundancy most_redundancy;
  preamble_ms = min (max settings.preamble_ms pace) longest_pause;
}
