-- What a line of a configuration is opened with. (This project's profile.)
use Rattle.std.specs.Prelude.{◌≡◌, max, min, Bool, not, is_some, List, [], ◌∷◌, ◌++◌, map}
use Rattle.std.specs.String.{string_bytes}
use Rattle.fax_config.specs.declared.config.LineConfig.{LineConfig}
use Rattle.fax_gateway.specs.declared.settings.Settings.{Settings}
use Rattle.fax_gateway.specs.Restored.{call_shown}
use Rattle.fax_line.specs.Actions.{BeginsWith}
use Rattle.fax_line.specs.Places.{PlaceValue}
use Rattle.fax_spool.specs.RecordOctets as spool
use Rattle.fax_wires.specs.holding.Storing.{HasDone}
use Rattle.fax_queue.specs.Restorations.{Restores}
use Rattle.fax_queue.specs.Queues.{QueueValue}
use Rattle.fax_queue.specs.declared.restored.RestoredLine.{RestoredLine}

-- A line asks for the calls of its jobs where its configuration gives the called leg no peer.
abbrev pub asks_by : LineConfig → Bool
asks_by config = not (is_some config.called.peer)

-- What is set for its gateway: a datagram has as many packets before its own as any call may have (its leg sends those that the call
-- has), the packet after a preamble waits as long as the configuration says, between 40 and 2,000 ms, and as many octets are held.
abbrev pub settings_by : LineConfig → Settings
settings_by config = record {
  redundancy = 8;
  preamble_ms = min (max config.preamble_ms 40) 2000;
  asks = asks_by config;
  memory = config.line_memory;
}

-- A LINE BEGINS WITH THE CALLS OF ITS OWN of these pages: of those that have its name; and so does its queue. Its wire holds nothing back.
pub record IsRestored (pages : List spool.PageValue)
    (config : LineConfig) (place : PlaceValue) (queue : QueueValue) : Type 0 where
  pub restored : RestoredLine
  pub restores : Restores (string_bytes config.name) pages restored
  pub begins : BeginsWith (map call_shown restored.calls.items) place.line
  pub fresh : HasDone [] place.line.holding
  pub settings : place.line.gateway.settings ≡ settings_by config
  pub queue_is : restored.queue ≡ queue

-- one more line, after the others, and its queue
pub record AddsRestored (pages : List spool.PageValue) (config : LineConfig)
    (olds news : List PlaceValue) (queues after : List QueueValue) : Type 0 where
  pub place : PlaceValue
  pub queue : QueueValue
  pub added : news ≡ olds ++ place ∷ []
  pub queued : after ≡ queues ++ queue ∷ []
  pub is : IsRestored pages config place queue

-- Each line of a configuration is restored with those of these pages that are its own, and its queue has just these.
abbrev pub AreRestored : List spool.PageValue
    → List LineConfig → List PlaceValue → List QueueValue → Type 0
AreRestored pages [] [] [] = Unit {0}
AreRestored pages (config ∷ configs) (place ∷ places) (queue ∷ queues) =
    IsRestored pages config place queue × AreRestored pages configs places queues
AreRestored pages configs places queues = ⊥
